-- The least number at which a test holds.
use Rattle.std.proofs.Common.{◌≡◌, ◌<◌, ◌≤◌, ◌⊎◌, inl, inr, ℕ, zero, suc, Bool, true, false, refl, ap, ◌∙◌, arith}
use Rattle.std.proofs.lemmas.Bool.{cases_lt}

pub record IsLeast (holds : ℕ → Bool) (n : ℕ) : Type 0 where
  pub least : ℕ
  pub within : least ≤ n
  pub here : holds least ≡ true
  pub none_before : (k : ℕ) → k < least → holds k ≡ false

no_more : (holds : ℕ → Bool) (n : ℕ) → ((k : ℕ) → k < n → holds k ≡ false) → holds n ≡ false → (k : ℕ) → k < suc n → holds k ≡ false
no_more holds n none here k l = elim (cases_lt k n) [
  | inl less ↦ none k less
  | inr more ↦ (let same : k ≡ n = omega (arith, l, more) in ap holds same ∙ here)
]

-- none of the first n, or the least of them
pub search_to : (holds : ℕ → Bool) (n : ℕ) → ((k : ℕ) → k < n → holds k ≡ false) ⊎ IsLeast holds n
search_to holds zero = inl (λ k l. absurd (omega (arith, l)))
search_to holds (suc n) = elim (search_to holds n) [
  | inr l ↦ inr (record { least = l.least; within = omega (arith, l.within); here = l.here; none_before = l.none_before })
  | inl none ↦ by (holds n) refl none
]
  where
    by : (b : Bool) → holds n ≡ b → ((k : ℕ) → k < n → holds k ≡ false) → ((k : ℕ) → k < suc n → holds k ≡ false) ⊎ IsLeast holds (suc n)
    by true e none = inr (record { least = n; within = omega arith; here = e; none_before = none })
    by false e none = inl (no_more holds n none e)

pub least_of : (holds : ℕ → Bool) (n : ℕ) → holds n ≡ true → IsLeast holds n
least_of holds n e = elim (search_to holds n) [
  | inr l ↦ l
  | inl none ↦ record { least = n; within = omega arith; here = e; none_before = none }
]

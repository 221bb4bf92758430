-- What a flash text gives, said in other words.
use Rattle.std.proofs.lemmas.Bool.{cases_lt}
use Rattle.std.proofs.Common.{◌≡◌, ℕ, zero, suc, ◌+◌, ◌<◌, ◌≤◌, Bool, true, false, if◌then◌else◌, None, Some, MatchResult, inl, inr, ◌⊎◌, List, Result, Ok, Err, refl, subst, arith}
use Rattle.x7_mcs.specs.DataRecords.{DataRecord, covered, overlap}
use Rattle.x7_mcs.specs.declared.fault.McsFault.{McsFault}
use Rattle.x7_mcs.specs.declared.fault.McsFault.TheVariants as fault

-- the outcome of a text that gives these bytes
pub back_of : {V : Type 0} (items : V → List ℕ) (m : Result (List ℕ) McsFault) (x : List ℕ) (r : Result V McsFault) → m ≡ Ok x → MatchResult r (λ v. m ≡ Ok (items v)) (λ f. (f ≡ fault.NoMemory) ⊎ (m ≡ Err f)) → MatchResult r (λ v. items v ≡ x) (λ f. f ≡ fault.NoMemory)
back_of items m x (Ok v) e h = cc
back_of items m x (Err f) e (inl h) = h
back_of items m x (Err f) e (inr h) = absurd cc

least_by : (b : Bool) (xs : List DataRecord) (p n q : ℕ) → covered xs p ≡ b → (if b then Some p else overlap xs (p + 1) n) ≡ Some q
    → (overlap xs (p + 1) n ≡ Some q → (p + 1 ≤ q) × (q < p + 1 + n) × (covered xs q ≡ true) × ((k : ℕ) → p + 1 ≤ k → k < q → covered xs k ≡ false))
    → (p ≤ q) × (q < p + suc n) × (covered xs q ≡ true) × ((k : ℕ) → p ≤ k → k < q → covered xs k ≡ false)
least_by true xs p n q c e more =
    let s : p ≡ q = cc in
    (omega (arith, s), omega (arith, s), subst (λ (k : ℕ). covered xs k ≡ true) s c, λ k h l. absurd (omega (arith, s, h, l)))
least_by false xs p n q c e more =
    let m = more e in
    (omega (arith, m.0), omega (arith, m.1), m.2, λ k h l. at_first xs p q k c m.3 h l)
  where
    at_first : (xs : List DataRecord) (p q k : ℕ) → covered xs p ≡ false → ((j : ℕ) → p + 1 ≤ j → j < q → covered xs j ≡ false) → p ≤ k → k < q → covered xs k ≡ false
    at_first xs p q k c m h l = elim (cases_lt p k) [
      | inl above ↦ m k (omega arith) l
      | inr below ↦ let s : p ≡ k = omega arith in subst (λ (j : ℕ). covered xs j ≡ false) s c
    ]

pub least_is : (xs : List DataRecord) (p n q : ℕ) → overlap xs p n ≡ Some q → (p ≤ q) × (q < p + n) × (covered xs q ≡ true) × ((k : ℕ) → p ≤ k → k < q → covered xs k ≡ false)
least_is xs p zero q e = absurd cc
least_is xs p (suc n) q e = least_by (covered xs p) xs p n q refl e (least_is xs (p + 1) n q)

none_by : (b : Bool) (xs : List DataRecord) (p n : ℕ) → covered xs p ≡ b → (if b then Some p else overlap xs (p + 1) n) ≡ None → (overlap xs (p + 1) n ≡ None → (k : ℕ) → p + 1 ≤ k → k < p + 1 + n → covered xs k ≡ false)
    → (k : ℕ) → p ≤ k → k < p + suc n → covered xs k ≡ false
none_by true xs p n c e more k h l = absurd cc
none_by false xs p n c e more k h l = elim (cases_lt p k) [
  | inl above ↦ more e k (omega arith) (omega arith)
  | inr below ↦ let s : p ≡ k = omega arith in subst (λ (j : ℕ). covered xs j ≡ false) s c
]

pub none_is : (xs : List DataRecord) (p n : ℕ) → overlap xs p n ≡ None → (k : ℕ) → p ≤ k → k < p + n → covered xs k ≡ false
none_is xs p zero e k h l = absurd (omega arith)
none_is xs p (suc n) e k h l = none_by (covered xs p) xs p n refl e (none_is xs (p + 1) n) k h l

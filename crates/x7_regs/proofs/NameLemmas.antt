-- The names of the registers differ: each has its own place in the table, by a computed test.
use Rattle.std.proofs.Common.{◌≤◌, length, map, get_or, nat_le, ◌≡◌, ℕ, zero, suc, ◌+◌, ◌<◌, ◌==◌, Bool, true, false, ◌&&◌, if◌then◌else◌, List, [], ◌∷◌, refl, ap, sym, ◌∙◌, arith, inl, inr, subst}
use Rattle.std.proofs.lemmas.Bool.{cases_lt, leb-true, and_parts, eqb-true}
use Rattle.std.proofs.lemmas.List.{get_or-map, length-map}
use Rattle.std.specs.Borrow.{Bor}
use Rattle.x7_regs.specs.Register.{reg_name, reg_name_limit, reg_names, reg_number_count}

same_text : List ℕ → List ℕ → Bool
same_text [] [] = true
same_text [] (y ∷ ys) = false
same_text (x ∷ xs) [] = false
same_text (x ∷ xs) (y ∷ ys) = (x == y) && same_text xs ys

-- the place of a name in a table
place_in : List (List ℕ) → List ℕ → ℕ
place_in [] name = 0
place_in (x ∷ xs) name = if same_text x name then 0 else place_in xs name + 1

-- the first n names stand at their own places
stand_in_place : ℕ → Bool
stand_in_place zero = true
stand_in_place (suc n) = (place_in reg_names (reg_name n) == n) && stand_in_place n

all_stand : stand_in_place 32 ≡ true
unfolding stand_in_place place_in same_text
all_stand = refl

place_is : (k n : ℕ) → n < k → stand_in_place k ≡ true → place_in reg_names (reg_name n) ≡ n
unfolding stand_in_place
place_is zero n h e = absurd (omega arith)
place_is (suc k) n h e =
    let parts = and_parts (place_in reg_names (reg_name k) == k) (stand_in_place k) e in
    elim (cases_lt n k) [
      | inl below ↦ place_is k n below parts.1
      | inr above ↦ let same : k ≡ n = omega arith in let P : ℕ → Type 0 = λ j. place_in reg_names (reg_name j) ≡ j in subst P same (eqb-true (place_in reg_names (reg_name k)) k parts.0)
    ]

pub reg_name_distinct : (m n : ℕ) → m < reg_number_count → n < reg_number_count → reg_name m ≡ reg_name n → m ≡ n
reg_name_distinct m n h k e = sym (place_is 32 m h all_stand) ∙ ap (place_in reg_names) e ∙ place_is 32 n k all_stand

-- each of the names has at most `most` bytes
are_short : ℕ → List (List ℕ) → Bool
are_short most [] = true
are_short most (x ∷ xs) = nat_le (length x) most && are_short most xs

short_at : (most : ℕ) (xs : List (List ℕ)) (n : ℕ) → are_short most xs ≡ true → length (get_or xs n []) ≤ most
unfolding are_short
short_at most [] n e = omega arith
short_at most (x ∷ xs) zero e = leb-true _ _ (and_parts (nat_le (length x) most) (are_short most xs) e).0
short_at most (x ∷ xs) (suc n) e = short_at most xs n (and_parts (nat_le (length x) most) (are_short most xs) e).1

pub reg_name_short : (n : ℕ) → length (reg_name n) ≤ reg_name_limit
unfolding are_short
reg_name_short n = short_at 7 reg_names n (let h : are_short 7 reg_names ≡ true = refl in h)

-- texts that are the names have the name of a register number at that number
pub text_at : (texts : List (Bor (List ℕ))) (place n : ℕ) (other : Bor (List ℕ)) → place ≡ n → n < reg_number_count → map (λ (text : Bor (List ℕ)). text.now) texts ≡ reg_names
    → (get_or texts place other).now ≡ reg_name n
text_at texts place n other e below names =
    let count : length texts ≡ reg_number_count = sym (length-map texts (λ (text : Bor (List ℕ)). text.now)) ∙ ap length names in
    sym (get_or-map (λ (text : Bor (List ℕ)). text.now) texts place other [] (omega (arith, count, e, below)))
    ∙ ap (λ (all : List (List ℕ)). get_or all place []) names
    ∙ ap (λ (k : ℕ). get_or reg_names k []) e

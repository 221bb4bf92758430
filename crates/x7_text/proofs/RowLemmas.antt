-- Rows: all but the last are full, and joined they are the elements.
use Rattle.std.proofs.Common.{◌≡◌, ℕ, ◌+◌, ◌<◌, ◌==◌, Bool, true, false, if◌then◌else◌, List, [], ◌∷◌, ◌++◌, length, refl, ap, ◌∙◌, append_assoc, arith, length-append, flat_map}
use Rattle.std.proofs.lemmas.Bool.{eqb-true, eqb-false}
use Rattle.x7_text.specs.Row.{AreFullButLast, rows_from}

cons_full : (n : ℕ) (r : List ℕ) (rs : List (List ℕ)) → length r ≡ n → 0 < n → AreFullButLast n rs → AreFullButLast n (r ∷ rs)
cons_full n r [] e h f = (omega arith, omega arith)
cons_full n r (s ∷ rs) e h f = (e, f)

full_by : (n : ℕ) (open_row : List ℕ) (x : ℕ) (xs : List ℕ) (b : Bool) → length open_row < n → (length open_row + 1 == n) ≡ b → AreFullButLast n (rows_from n [] xs) → (length (open_row ++ x ∷ []) < n → AreFullButLast n (rows_from n (open_row ++ x ∷ []) xs))
    → AreFullButLast n (if b then (open_row ++ x ∷ []) ∷ rows_from n [] xs else rows_from n (open_row ++ x ∷ []) xs)
full_by n open_row x xs true h e f g = cons_full n (open_row ++ x ∷ []) (rows_from n [] xs) (length-append open_row (x ∷ []) ∙ eqb-true (length open_row + 1) n e) (omega arith) f
full_by n open_row x xs false h e f g = let no : length open_row + 1 ≡ n → ⊥ = eqb-false (length open_row + 1) n e in g (omega (arith, length-append open_row (x ∷ []), no))

pub rows_full : (n : ℕ) (open_row xs : List ℕ) → length open_row < n → AreFullButLast n (rows_from n open_row xs)
rows_full n [] [] h = tt
rows_full n (y ∷ ys) [] h = (omega arith, omega arith)
rows_full n open_row (x ∷ xs) h = full_by n open_row x xs (length open_row + 1 == n) h refl (rows_full n [] xs (omega arith)) (λ k. rows_full n (open_row ++ x ∷ []) xs k)

joined_by : (n : ℕ) (open_row : List ℕ) (x : ℕ) (xs : List ℕ) (b : Bool) → flat_map (λ (r : List ℕ). r) (rows_from n [] xs) ≡ xs → flat_map (λ (r : List ℕ). r) (rows_from n (open_row ++ x ∷ []) xs) ≡ open_row ++ x ∷ [] ++ xs
    → flat_map (λ (r : List ℕ). r) (if b then (open_row ++ x ∷ []) ∷ rows_from n [] xs else rows_from n (open_row ++ x ∷ []) xs) ≡ open_row ++ x ∷ xs
joined_by n open_row x xs true f g = ap (λ t. open_row ++ x ∷ [] ++ t) f ∙ append_assoc open_row (x ∷ []) xs
joined_by n open_row x xs false f g = g ∙ append_assoc open_row (x ∷ []) xs

pub rows_joined : (n : ℕ) (open_row xs : List ℕ) → flat_map (λ (r : List ℕ). r) (rows_from n open_row xs) ≡ open_row ++ xs
rows_joined n [] [] = refl
rows_joined n (y ∷ ys) [] = refl
rows_joined n open_row (x ∷ xs) = joined_by n open_row x xs (length open_row + 1 == n) (rows_joined n [] xs) (rows_joined n (open_row ++ x ∷ []) xs)

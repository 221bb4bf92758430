-- A row of a table by its number.
use Rattle.std.proofs.Common.{◌≡◌, ℕ, zero, suc, ◌+◌, ◌<◌, List, [], ◌∷◌, get_or, length, ap, ◌∙◌, arith}
use Rattle.x7_listing.specs.Fast.AtOnce.{AreRowsFrom, row_text}

-- row k of the rows of the numbers from n up has the text of n + k
pub row_at : (text : ℕ → List ℕ) (n : ℕ) (rows : List (List ℕ)) (k m : ℕ) (d : List ℕ) → AreRowsFrom text n rows → k < length rows → m ≡ n + k → row_text (get_or rows k d) ≡ text m
row_at text n [] k m d a h e = absurd (omega (arith, h))
row_at text n (row ∷ rows) zero m d a h e = let f : n ≡ m = omega (arith, e) in a.0 ∙ ap text f
row_at text n (row ∷ rows) (suc k) m d a h e = row_at text (suc n) rows k m d a.1 (omega (arith, h)) (omega (arith, e))

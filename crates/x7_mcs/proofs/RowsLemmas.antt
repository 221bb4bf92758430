-- The first row of elements.
use Rattle.std.proofs.Common.{◌≡◌, ℕ, suc, zero, ◌+◌, ◌*◌, ◌%◌, min, ◌<◌, ◌≤◌, Bool, if◌then◌else◌, List, [], ◌∷◌, ◌++◌, length, take, drop, refl, ap, ap₂, sym, ◌∙◌, ◌⊎◌, inl, inr, append-nil, append_assoc, arith, length-append, eq-eqb, ne_eqb}
use Rattle.std.proofs.lemmas.Grind.{common_steps}
use Rattle.std.proofs.lemmas.List.{take_all, drop_all}
use Rattle.x7_mcs.specs.Record.{block_size}
use Rattle.x7_text.specs.Row.{rows, rows_from}
use Rattle.x7_mcs.specs.Text.{block_start, data_line, row_lines}

-- an open row and k more, of n in all
first_row : (n k y : ℕ) (part xs : List ℕ) → length (y ∷ part) + k ≡ n → 0 < k → rows_from n (y ∷ part) xs ≡ ((y ∷ part) ++ take k xs) ∷ rows n (drop k xs)
first_row n zero y part xs e h = absurd (omega arith)
first_row n (suc k) y part [] e h = ap (λ t. (y ∷ t) ∷ []) (sym (append-nil part))
first_row n (suc zero) y part (x ∷ xs) e h =
    ap (λ (b : Bool). if b then ((y ∷ part) ++ x ∷ []) ∷ rows_from n [] xs else rows_from n ((y ∷ part) ++ x ∷ []) xs) (eq-eqb (length (y ∷ part) + 1) n e)
first_row n (suc (suc k)) y part (x ∷ xs) e h =
    ap (λ (b : Bool). if b then ((y ∷ part) ++ x ∷ []) ∷ rows_from n [] xs else rows_from n ((y ∷ part) ++ x ∷ []) xs) (ne_eqb (length (y ∷ part) + 1) n (λ f. omega (arith, e, f)))
    ∙ first_row n (suc k) y (part ++ x ∷ []) xs (omega (arith, e, length-append part (x ∷ []))) (omega arith)
    ∙ ap (λ t. (y ∷ t) ∷ rows n (drop (suc k) xs)) (append_assoc part (x ∷ []) (take (suc k) xs))

pub first_of_16 : (xs : List ℕ) → 0 < length xs → rows 16 xs ≡ take 16 xs ∷ rows 16 (drop 16 xs)
first_of_16 [] h = absurd (omega arith)
first_of_16 (x ∷ xs) h = first_row 16 15 x [] xs refl (omega arith)

pub none_of_16 : (xs : List ℕ) → length xs ≡ 0 → rows 16 xs ≡ []
none_of_16 [] e = refl
none_of_16 (x ∷ xs) e = absurd (omega (arith, e))

by_min : (n k : ℕ) → k ≡ min n 16 → (k ≡ 16) ⊎ ((k ≡ n) × (n ≤ 16))
by_min n k e = grind (arith, common_steps)

cut : (k : ℕ) (xs : List ℕ) → k ≡ min (length xs) 16 → take k xs ≡ take 16 xs
cut k xs e = elim (by_min (length xs) k e) [
  | inl s ↦ ap (λ (j : ℕ). take j xs) s
  | inr s ↦ take_all k xs (omega (arith, s.0)) ∙ sym (take_all 16 xs s.1)
]

cut_off : (k : ℕ) (xs : List ℕ) → k ≡ min (length xs) 16 → drop k xs ≡ drop 16 xs
cut_off k xs e = elim (by_min (length xs) k e) [
  | inl s ↦ ap (λ (j : ℕ). drop j xs) s
  | inr s ↦ drop_all k xs (omega (arith, s.0)) ∙ sym (drop_all 16 xs s.1)
]

-- one row more of the text is written
pub row_more : (whole out next : List ℕ) (place k : ℕ) (rest row more : List ℕ) → whole ≡ out ++ row_lines place (rows 16 rest) → 0 < length rest → k ≡ min (length rest) 16
    → row ≡ take k rest → more ≡ drop k rest → next ≡ out ++ (block_start place ++ data_line (place % block_size) row) → whole ≡ next ++ row_lines (place + length row) (rows 16 more)
row_more whole out next place k rest row more e h n f g i =
    let r : row ≡ take 16 rest = f ∙ cut k rest n in
    let m : more ≡ drop 16 rest = g ∙ cut_off k rest n in
    e ∙ ap (λ t. out ++ row_lines place t) (first_of_16 rest h ∙ ap₂ (λ (s : List ℕ) (t : List ℕ). s ∷ rows 16 t) (sym r) (sym m))
    ∙ sym (append_assoc out (block_start place ++ data_line (place % block_size) row) (row_lines (place + length row) (rows 16 more)))
    ∙ ap (λ t. t ++ row_lines (place + length row) (rows 16 more)) (sym i)

-- the room that is left for the rows after one
pub room_more : (n k m len next cap more : ℕ) → k ≡ min n 16 → m + k ≡ n → 0 < n → (0 < n → len + (4 * n + 60) ≤ cap) → next ≤ len + 60 → cap ≤ more → 0 < m → next + (4 * m + 60) ≤ more
room_more n k m len next cap more e f h room l c g =
    elim (by_min n k e) [
      | inl s ↦ omega (arith, s, f, room h, l, c)
      | inr s ↦ absurd (omega (arith, s.0, f, g))
    ]

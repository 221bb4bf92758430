-- The line of a row of sixteen bytes.
use Rattle.std.proofs.Common.{◌≡◌, ℕ, ◌+◌, ◌/◌, ◌%◌, ◌<◌, ◌≤◌, List, [], ◌∷◌, ◌++◌, length, get_or, take, Bool, true, false, not, eqb, refl, ap, ap₂, sym, subst, ◌∙◌, arith, append_assoc}
use Rattle.std.proofs.lemmas.Grind.{flat_map-append}
use Rattle.std.proofs.lemmas.List.{take_all}
use Rattle.std.proofs.lemmas.List.Sums.{sum_by-cons}
use Rattle.std.proofs.lemmas.Simd.{pick_l_whole}
use lib.Lanes.{chunk, fold_l, pick_l}
use Rattle.std.specs.Cmp.Lexicographic.{pointwise}
use Rattle.std.specs.List.{flat_map, range_with_len, sum}
use Rattle.x7_text.specs.Digits.{hex_byte}
use Rattle.x7_text.proofs.DigitLemmas.{same_yes}
use Rattle.x7_mcs.specs.Record.{sum_byte}
use Rattle.x7_mcs.specs.Text.{data_line, record_line}

-- ---- the sum in a vector register

pub folded : (xs : List ℕ) (a : ℕ) → a < 256 → fold_l (λ s x. (s + x) % 256) a xs ≡ (a + sum xs) % 256
folded [] a h = omega (arith, h)
folded (x ∷ xs) a h = folded xs ((a + x) % 256) (omega arith) ∙ (let e : sum (x ∷ xs) ≡ x + sum xs = sum_by-cons (λ y. y) x xs in omega (arith, e))

-- ---- the line

pub row_written : (address v : ℕ) (content fields first second last : List ℕ) → length content ≡ 16 → v ≡ sum_byte (16 ∷ address / 256 ∷ address % 256 ∷ 0 ∷ content)
    → fields ≡ flat_map hex_byte (16 ∷ address / 256 ∷ address % 256 ∷ 0 ∷ []) → first ++ second ≡ flat_map hex_byte content → last ≡ hex_byte v
    → 58 ∷ (fields ++ (first ++ (second ++ (last ++ 10 ∷ [])))) ≡ data_line address content
row_written address v content fields first second last l s f c d =
    let digits : fields ++ (first ++ (second ++ (last ++ 10 ∷ []))) ≡ flat_map hex_byte ((16 ∷ address / 256 ∷ address % 256 ∷ 0 ∷ content) ++ v ∷ []) ++ 10 ∷ [] =
    ap₂ (λ (t u : List ℕ). t ++ (first ++ (second ++ (u ++ 10 ∷ [])))) f d
    ∙ ap (λ (t : List ℕ). flat_map hex_byte (16 ∷ address / 256 ∷ address % 256 ∷ 0 ∷ []) ++ t) (sym (append_assoc first second (hex_byte v ++ 10 ∷ [])) ∙ ap (λ (t : List ℕ). t ++ (hex_byte v ++ 10 ∷ [])) c)
    ∙ ap (λ (t : List ℕ). flat_map hex_byte (16 ∷ address / 256 ∷ address % 256 ∷ 0 ∷ []) ++ t) (sym (append_assoc (flat_map hex_byte content) (hex_byte v) (10 ∷ [])))
    ∙ ap (λ (t : List ℕ). flat_map hex_byte (16 ∷ address / 256 ∷ address % 256 ∷ 0 ∷ []) ++ (t ++ 10 ∷ [])) (sym (flat_map-append hex_byte content (v ∷ []))) in
    ap (λ (t : List ℕ). 58 ∷ t) digits
    ∙ ap (λ (n : ℕ). 58 ∷ (flat_map hex_byte ((16 ∷ address / 256 ∷ address % 256 ∷ 0 ∷ content) ++ n ∷ []) ++ 10 ∷ [])) s
    ∙ ap (λ (n : ℕ). record_line (n ∷ address / 256 ∷ address % 256 ∷ 0 ∷ content)) (sym l)

-- a row that is whole
pub whole_row : (row whole : List ℕ) → whole ≡ take 16 row → length row ≤ 16 → whole ≡ row
whole_row row whole e h = e ∙ take_all 16 row h

-- two pieces that do not differ
pub not_other : (a b : List ℕ) (r : Bool) → r ≡ not (pointwise eqb a b) → r ≡ false → a ≡ b
not_other a b r e h = same_yes a b (pointwise eqb a b) refl (by (pointwise eqb a b) (sym e ∙ h))
  where
    by : (b : Bool) → not b ≡ false → b ≡ true
    by true e = refl
    by false e = absurd cc

abbrev Pieces : List ℕ → Type 0
Pieces xs = get_or xs 0 0 ∷ (chunk 1 8 xs ++ (chunk 9 16 xs ++ (chunk 25 16 xs ++ ((get_or xs 41 0 ∷ get_or xs 42 0 ∷ []) ++ get_or xs 43 0 ∷ [])))) ≡ xs

-- a line of 44 bytes is its pieces
pub in_pieces : (line : List ℕ) → length line ≡ 44 → get_or line 0 0 ∷ (chunk 1 8 line ++ (chunk 9 16 line ++ (chunk 25 16 line ++ ((get_or line 41 0 ∷ get_or line 42 0 ∷ []) ++ get_or line 43 0 ∷ [])))) ≡ line
in_pieces line e = let h : Pieces (pick_l 0 line (range_with_len 0 44)) = refl in subst Pieces (pick_l_whole 0 line 44 e) h

-- a line whose pieces are those of a row
pub row_stands : (address v : ℕ) (line content fields first second last f1 s1 g1 : List ℕ) → length line ≡ 44 → length content ≡ 16 → get_or line 0 0 ≡ 58 → get_or line 43 0 ≡ 10 → f1 ≡ chunk 9 16 line → s1 ≡ chunk 25 16 line → g1 ≡ chunk 1 8 line
    → f1 ≡ first → s1 ≡ second → g1 ≡ fields → get_or line 41 0 ∷ get_or line 42 0 ∷ [] ≡ last → v ≡ sum_byte (16 ∷ address / 256 ∷ address % 256 ∷ 0 ∷ content)
    → fields ≡ flat_map hex_byte (16 ∷ address / 256 ∷ address % 256 ∷ 0 ∷ []) → first ++ second ≡ flat_map hex_byte content → last ≡ hex_byte v → line ≡ data_line address content
row_stands address v line content fields first second last f1 s1 g1 long l zero end a b c d e f g s h i j =
    let one : chunk 9 16 line ≡ first = sym a ∙ d in
    let two : chunk 25 16 line ≡ second = sym b ∙ e in
    let three : chunk 1 8 line ≡ fields = sym c ∙ f in
    sym (in_pieces line long)
    ∙ ap₂ (λ (x y : ℕ). x ∷ (chunk 1 8 line ++ (chunk 9 16 line ++ (chunk 25 16 line ++ ((get_or line 41 0 ∷ get_or line 42 0 ∷ []) ++ y ∷ []))))) zero end
    ∙ ap₂ (λ (x y : List ℕ). 58 ∷ (x ++ (y ++ (chunk 25 16 line ++ ((get_or line 41 0 ∷ get_or line 42 0 ∷ []) ++ 10 ∷ []))))) three one
    ∙ ap₂ (λ (x y : List ℕ). 58 ∷ (fields ++ (first ++ (x ++ (y ++ 10 ∷ []))))) two g
    ∙ row_written address v content fields first second last l s h i j

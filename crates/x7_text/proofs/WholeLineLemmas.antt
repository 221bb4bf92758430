-- Whole lines at once, and the parts of a text that is given in three parts.
use Rattle.std.proofs.Common.{◌≡◌, ℕ, zero, suc, ◌+◌, ◌*◌, ◌<◌, ◌≤◌, List, [], ◌∷◌, ◌++◌, length, take, drop, codes, refl, ap, sym, ◌∙◌, append_assoc, arith, length-drop}
use Rattle.std.proofs.lemmas.List.{drop-drop, length-take-le, take-append-drop}
use Rattle.std.proofs.lemmas.List.Folds.{flat_map-map}
use Rattle.std.specs.List.{flat_map}
use Rattle.std.specs.Simd.{first_chunks}
use lib.Lanes.{Each1}
use Rattle.x7_text.specs.Digits.{hex_byte, hex_word}
use Rattle.x7_text.specs.Row.{in_line_after, line, open_text, spaced}
use Rattle.x7_words.specs.Word.{words_of_bytes}
use Rattle.x7_text.proofs.LineLemmas.{in_line_after_append, in_line_after_filled, in_line_after_row, open_text_append, open_text_row}
use Rattle.x7_words.proofs.WordLemmas.{length_words, words_of_bytes_append}
use Rattle.x7_text.proofs.WordLemmas.{hex_words}

-- the words of a whole line, each after a space
pub whole_line : (bs digits : List ℕ) → length bs ≡ 32 → Each1 (λ b. b < 256) bs → digits ≡ flat_map hex_byte bs
    → codes "data" ++ (flat_map (λ (w : List ℕ). 32 ∷ w) (first_chunks 8 8 digits) ++ 10 ∷ []) ≡ line (codes "data") spaced (words_of_bytes bs)
whole_line bs digits full fit same =
    ap (λ t. codes "data" ++ (t ++ 10 ∷ []))
    (ap (λ t. flat_map (λ (w : List ℕ). 32 ∷ w) (first_chunks 8 8 t)) same ∙ ap (flat_map (λ (w : List ℕ). 32 ∷ w)) (hex_words 8 bs full fit) ∙ flat_map-map (λ (w : List ℕ). 32 ∷ w) hex_word (words_of_bytes bs))

-- elements that fill an open line
pub in_line_after_full : (n i : ℕ) (xs : List ℕ) → i < n → i + length xs ≡ n → in_line_after n i xs ≡ 0
in_line_after_full n i [] less e = absurd (omega (arith, e))
in_line_after_full n i (x ∷ xs) less e = in_line_after_filled n i x xs (omega (arith, e))

-- elements of which 32 bytes make a whole row
pub record InRows (n : ℕ) (elements : List ℕ → List ℕ) : Type 0 where
  pub divides : (bs : List ℕ) → 32 ≤ length bs → elements bs ≡ elements (take 32 bs) ++ elements (drop 32 bs)
  pub is_full : (bs : List ℕ) → 32 ≤ length bs → length (elements (take 32 bs)) ≡ n
  pub positive : 0 < n

pub words_in_rows : InRows 8 words_of_bytes
words_in_rows = record {
  divides = λ bs h. ap words_of_bytes (sym (take-append-drop 32 bs)) ∙ words_of_bytes_append 8 (take 32 bs) (drop 32 bs) (length-take-le 32 bs h);
  is_full = λ bs h. length_words (take 32 bs) 8 (length-take-le 32 bs h);
  positive = omega arith;
}

pub bytes_in_rows : InRows 32 (λ bs. bs)
bytes_in_rows = record { divides = λ bs h. sym (take-append-drop 32 bs); is_full = λ bs h. length-take-le 32 bs h; positive = omega arith }

drop_row : (k : ℕ) (bs : List ℕ) → drop (k * 32) (drop 32 bs) ≡ drop (suc k * 32) bs
drop_row k bs = let e : 32 + k * 32 ≡ suc k * 32 = omega arith in drop-drop (k * 32) 32 bs ∙ ap (λ (j : ℕ). drop j bs) e

pub lines_text : (n : ℕ) (keyword : List ℕ) (text : ℕ → List ℕ) (elements : List ℕ → List ℕ) → InRows n elements → (k : ℕ) (bs : List ℕ) → k * 32 ≤ length bs
    → open_text n keyword text 0 (elements bs) ≡ flat_map (λ (row : List ℕ). line keyword text (elements row)) (first_chunks 32 k bs) ++ open_text n keyword text 0 (elements (drop (k * 32) bs))
lines_text n keyword text elements r zero bs h = refl
lines_text n keyword text elements r (suc k) bs h =
    let long : 32 ≤ length bs = omega arith in
    ap (open_text n keyword text 0) (r.divides bs long)
    ∙ open_text_row n keyword text (elements (take 32 bs)) (elements (drop 32 bs)) (r.is_full bs long) r.positive
    ∙ ap (λ t. line keyword text (elements (take 32 bs)) ++ t) (lines_text n keyword text elements r k (drop 32 bs) (omega (arith, length-drop 32 bs)))
    ∙ ap (λ t. line keyword text (elements (take 32 bs)) ++ (flat_map (λ (row : List ℕ). line keyword text (elements row)) (first_chunks 32 k (drop 32 bs)) ++ open_text n keyword text 0 (elements t))) (drop_row k bs)
    ∙ sym (append_assoc (line keyword text (elements (take 32 bs))) (flat_map (λ (row : List ℕ). line keyword text (elements row)) (first_chunks 32 k (drop 32 bs))) (open_text n keyword text 0 (elements (drop (suc k * 32) bs))))

pub lines_count : (n : ℕ) (elements : List ℕ → List ℕ) → InRows n elements → (k : ℕ) (bs : List ℕ) → k * 32 ≤ length bs → in_line_after n 0 (elements bs) ≡ in_line_after n 0 (elements (drop (k * 32) bs))
lines_count n elements r zero bs h = refl
lines_count n elements r (suc k) bs h =
    let long : 32 ≤ length bs = omega arith in
    ap (in_line_after n 0) (r.divides bs long)
    ∙ in_line_after_row n (elements (take 32 bs)) (elements (drop 32 bs)) (r.is_full bs long) r.positive
    ∙ lines_count n elements r k (drop 32 bs) (omega (arith, length-drop 32 bs))
    ∙ ap (λ t. in_line_after n 0 (elements t)) (drop_row k bs)

-- elements that fill the open line, and those after them
pub filled_text : (n : ℕ) (keyword : List ℕ) (text : ℕ → List ℕ) (i : ℕ) (xs ys : List ℕ) → in_line_after n i xs ≡ 0 → open_text n keyword text i (xs ++ ys) ≡ open_text n keyword text i xs ++ open_text n keyword text 0 ys
filled_text n keyword text i xs ys filled = open_text_append n keyword text i xs ys ∙ ap (λ j. open_text n keyword text i xs ++ open_text n keyword text j ys) filled

pub filled_count : (n i : ℕ) (xs ys : List ℕ) → in_line_after n i xs ≡ 0 → in_line_after n i (xs ++ ys) ≡ in_line_after n 0 ys
filled_count n i xs ys filled = in_line_after_append n i xs ys ∙ ap (λ j. in_line_after n j ys) filled

pub in_two : (old first second a b whole : List ℕ) → first ≡ old ++ a → second ≡ first ++ b → whole ≡ a ++ b → second ≡ old ++ whole
in_two old first second a b whole p q s = rw (q, p, s) (simp append_assoc)

pub length_hex_bytes : (bs : List ℕ) → length (flat_map hex_byte bs) ≡ 2 * length bs
length_hex_bytes [] = refl
length_hex_bytes (b ∷ bs) = omega (arith, length_hex_bytes bs)

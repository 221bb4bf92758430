-- The text and the count after some elements, as a loop over elements keeps them; and a bound on the text's length.
use Rattle.std.proofs.Common.{◌≡◌, ℕ, suc, ◌+◌, ◌-◌, ◌*◌, ◌<◌, ◌≤◌, ◌==◌, if◌then◌else◌, List, [], ◌∷◌, ◌++◌, length, map, take, ap, sym, ◌∙◌, append_assoc, arith, length-append, codes}
use Rattle.std.proofs.lemmas.Grind.{common_steps}
use Rattle.std.proofs.lemmas.List.{length-map, length-take-le}
use Rattle.x7_words.specs.Word.{word_of_bytes}
use Rattle.x7_text.specs.Digits.{hex_byte}
use Rattle.x7_text.specs.Row.{element_text, in_line_after, next_in_line, open_text, spaced}
use Rattle.x7_text.proofs.LineLemmas.{open_text_append, in_line_after_append}

-- the text and the count after the elements xs, put to the text `old` where `start` elements stood in the open line
pub record WrittenSoFar (n : ℕ) (keyword : List ℕ) (text : ℕ → List ℕ) (start : ℕ) (old xs items : List ℕ) (count : ℕ) : Type 0 where
  pub text_is : items ≡ old ++ open_text n keyword text start xs
  pub count_is : count ≡ in_line_after n start xs
  pub is_open : count < n

pub written_one_more : (n : ℕ) (keyword : List ℕ) (text : ℕ → List ℕ) (start : ℕ) (old xs items items' : List ℕ) (count count' x : ℕ) → WrittenSoFar n keyword text start old xs items count
    → items' ≡ items ++ open_text n keyword text count (x ∷ []) → count' ≡ in_line_after n count (x ∷ []) → count' < n → WrittenSoFar n keyword text start old (xs ++ x ∷ []) items' count'
written_one_more n keyword text start old xs items items' count count' x t e f h = record {
  text_is = e ∙ ap (λ k. items ++ open_text n keyword text k (x ∷ [])) t.count_is ∙ ap (λ s. s ++ open_text n keyword text (in_line_after n start xs) (x ∷ [])) t.text_is
      ∙ append_assoc old (open_text n keyword text start xs) (open_text n keyword text (in_line_after n start xs) (x ∷ [])) ∙ ap (λ s. old ++ s) (sym (open_text_append n keyword text start xs (x ∷ [])));
  count_is = f ∙ ap (λ k. in_line_after n k (x ∷ [])) t.count_is ∙ sym (in_line_after_append n start xs (x ∷ []));
  is_open = h;
}

element_length : (n : ℕ) (keyword : List ℕ) (text : ℕ → List ℕ) (i x : ℕ) (rest : List ℕ)
    → length (element_text n keyword text i x ++ rest) ≡ (if i == 0 then length keyword else 0) + length (text x) + (if i + 1 == n then 1 else 0) + length rest
element_length n keyword text i x rest = simp length-append (grind (arith, common_steps))

words_step : (i k rest : ℕ) → rest ≤ 12 * k + (if (if i + 1 == 8 then 0 else i + 1) == 0 then 1 else 0)
    → (if i == 0 then 4 else 0) + 9 + (if i + 1 == 8 then 1 else 0) + rest ≤ 12 * suc k + (if i == 0 then 1 else 0)
words_step i k rest h = grind (arith, common_steps)

-- words add at most twelve bytes of text each, and one more where no line is open
pub words_length : (i : ℕ) (ws : List ℕ) → length (open_text 8 (codes "data") spaced i ws) ≤ 12 * length ws + (if i == 0 then 1 else 0)
words_length i [] = omega arith
words_length i (w ∷ ws) = rw (element_length 8 (codes "data") spaced i w (open_text 8 (codes "data") spaced (next_in_line 8 i) ws)) (words_step i (length ws) (length (open_text 8 (codes "data") spaced (next_in_line 8 i) ws)) (words_length (next_in_line 8 i) ws))

bytes_step : (i k rest : ℕ) → rest ≤ 3 * k + (if (if i + 1 == 32 then 0 else i + 1) == 0 then 5 else (if i + 1 == 32 then 0 else i + 1) - 26)
    → (if i == 0 then 6 else 0) + 2 + (if i + 1 == 32 then 1 else 0) + rest ≤ 3 * suc k + (if i == 0 then 5 else i - 26)
bytes_step i k rest h = grind (arith, common_steps)

-- bytes add at most three bytes of text each, and five more where no line is open; in an open line, as many more as it
-- has bytes past 26
pub bytes_length : (i : ℕ) (bs : List ℕ) → length (open_text 32 (codes "bytes ") hex_byte i bs) ≤ 3 * length bs + (if i == 0 then 5 else i - 26)
bytes_length i [] = omega arith
bytes_length i (b ∷ bs) = rw (element_length 32 (codes "bytes ") hex_byte i b (open_text 32 (codes "bytes ") hex_byte (next_in_line 32 i) bs)) (bytes_step i (length bs) (length (open_text 32 (codes "bytes ") hex_byte (next_in_line 32 i) bs)) (bytes_length (next_in_line 32 i) bs))

pub words_at_most : (i : ℕ) (ws : List ℕ) → length (open_text 8 (codes "data") spaced i ws) ≤ 12 * length ws + 1
words_at_most i ws = let h = words_length i ws in grind (arith, common_steps)

pub bytes_at_most : (i : ℕ) (bs : List ℕ) → i < 32 → length (open_text 32 (codes "bytes ") hex_byte i bs) ≤ 3 * length bs + 5
bytes_at_most i bs less = let h = bytes_length i bs in grind (arith, common_steps)

-- the length of the text in the loops
pub written_words_length : (start : ℕ) (old items : List ℕ) (groups : List (List ℕ)) (i count : ℕ) → i ≤ length groups
    → WrittenSoFar 8 (codes "data") spaced start old (map word_of_bytes (take i groups)) items count → length items ≤ length old + (12 * i + 1)
written_words_length start old items groups i count h t =
    omega (arith, ap length t.text_is, length-append old (open_text 8 (codes "data") spaced start (map word_of_bytes (take i groups))), words_at_most start (map word_of_bytes (take i groups)), length-map (take i groups) word_of_bytes, length-take-le i groups h)

pub written_bytes_length : (start : ℕ) (old items bs : List ℕ) (i count : ℕ) → start < 32 → i ≤ length bs
    → WrittenSoFar 32 (codes "bytes ") hex_byte start old (take i bs) items count → length items ≤ length old + (3 * i + 5)
written_bytes_length start old items bs i count less h t =
    omega (arith, ap length t.text_is, length-append old (open_text 32 (codes "bytes ") hex_byte start (take i bs)), bytes_at_most start (take i bs) less, length-take-le i bs h)

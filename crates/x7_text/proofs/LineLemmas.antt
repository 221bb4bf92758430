-- Lines element by element: appended lists, a closed text, and a row that fills a line.
use Rattle.std.proofs.Common.{◌≡◌, ℕ, suc, ◌+◌, ◌<◌, ◌==◌, Bool, true, false, List, [], ◌∷◌, ◌++◌, length, refl, ap, sym, ◌∙◌, append_assoc, append-nil, arith, length-append, codes, flat_map}
use Rattle.std.proofs.lemmas.Grind.{common_steps, flat_map-append}
use Rattle.x7_text.specs.Digits.{hex_byte}
use Rattle.x7_text.specs.Row.{line_start, bytes_text, close, data_text, line_end, line, next_in_line, open_text, element_text, in_line_after, rows_from, spaced}

pub open_text_append : (n : ℕ) (keyword : List ℕ) (text : ℕ → List ℕ) (i : ℕ) (xs ys : List ℕ) → open_text n keyword text i (xs ++ ys) ≡ open_text n keyword text i xs ++ open_text n keyword text (in_line_after n i xs) ys
open_text_append n keyword text i [] ys = refl
open_text_append n keyword text i (x ∷ xs) ys =
    ap (λ t. element_text n keyword text i x ++ t) (open_text_append n keyword text (next_in_line n i) xs ys)
    ∙ sym (append_assoc (element_text n keyword text i x) (open_text n keyword text (next_in_line n i) xs) (open_text n keyword text (in_line_after n (next_in_line n i) xs) ys))

pub in_line_after_append : (n i : ℕ) (xs ys : List ℕ) → in_line_after n i (xs ++ ys) ≡ in_line_after n (in_line_after n i xs) ys
in_line_after_append n i [] ys = refl
in_line_after_append n i (x ∷ xs) ys = in_line_after_append n (next_in_line n i) xs ys

-- what stands in an open line
abbrev pub opened : List ℕ → (ℕ → List ℕ) → List ℕ → List ℕ
opened keyword text [] = []
opened keyword text (x ∷ xs) = keyword ++ flat_map text (x ∷ xs)

line_start_more : (keyword : List ℕ) (k : ℕ) → line_start keyword (suc k) ≡ []
line_start_more keyword k = grind (arith, common_steps)

close_more : (k : ℕ) → close (suc k) ≡ 10 ∷ []
close_more k = grind (arith, common_steps)

opened_snoc : (keyword : List ℕ) (text : ℕ → List ℕ) (open_row : List ℕ) (x : ℕ) → opened keyword text (open_row ++ x ∷ []) ≡ opened keyword text open_row ++ line_start keyword (length open_row) ++ text x
opened_snoc keyword text [] x = ap (λ t. keyword ++ t) (append-nil (text x))
opened_snoc keyword text (y ∷ ys) x =
    ap (λ t. keyword ++ t) (flat_map-append text (y ∷ ys) (x ∷ []) ∙ ap (λ t. flat_map text (y ∷ ys) ++ t) (append-nil (text x)))
    ∙ sym (append_assoc keyword (flat_map text (y ∷ ys)) (text x)) ∙ ap (λ t. t ++ text x) (sym (append-nil (keyword ++ flat_map text (y ∷ ys))))
    ∙ ap (λ t. keyword ++ flat_map text (y ∷ ys) ++ t ++ text x) (sym (line_start_more keyword (length ys)))

line_opened : (keyword : List ℕ) (text : ℕ → List ℕ) (open_row : List ℕ) (x : ℕ) → line keyword text (open_row ++ x ∷ []) ≡ opened keyword text (open_row ++ x ∷ []) ++ 10 ∷ []
line_opened keyword text [] x = simp append_assoc
line_opened keyword text (y ∷ ys) x = simp append_assoc

full_glue : (o b t r c l R : List ℕ) → l ≡ o ++ b ++ t → r ++ c ≡ R → o ++ (b ++ t ++ 10 ∷ [] ++ r) ++ c ≡ l ++ 10 ∷ [] ++ R
full_glue o b t r c l R e f = rw (e, ← f) (simp append_assoc)

more_glue : (o b t r c l R : List ℕ) → l ≡ o ++ b ++ t → l ++ r ++ c ≡ R → o ++ (b ++ t ++ [] ++ r) ++ c ≡ R
more_glue o b t r c l R e f = rw (← f, e) (simp (append_assoc, append-nil))

-- what stands in an open line, the text that xs add to it, and the end of the line then open, are the lines of the rows
abbrev pub Closes : ℕ → List ℕ → (ℕ → List ℕ) → List ℕ → ℕ → List ℕ → Type 0
Closes n keyword text open_row k xs = opened keyword text open_row ++ open_text n keyword text k xs ++ close (in_line_after n k xs) ≡ flat_map (line keyword text) (rows_from n open_row xs)

closing_by : (n : ℕ) (keyword : List ℕ) (text : ℕ → List ℕ) (open_row : List ℕ) (k x : ℕ) (xs : List ℕ) (b : Bool) → k ≡ length open_row → (length open_row + 1 == n) ≡ b
    → Closes n keyword text [] 0 xs → Closes n keyword text (open_row ++ x ∷ []) (length open_row + 1) xs → Closes n keyword text open_row k (x ∷ xs)
closing_by n keyword text open_row k x xs true same e full more =
    rw (same, e)
    (full_glue (opened keyword text open_row) (line_start keyword (length open_row)) (text x) (open_text n keyword text 0 xs) (close (in_line_after n 0 xs)) (opened keyword text (open_row ++ x ∷ [])) (flat_map (line keyword text) (rows_from n [] xs)) (opened_snoc keyword text open_row x) full
    ∙ ap (λ t. t ++ flat_map (line keyword text) (rows_from n [] xs)) (sym (line_opened keyword text open_row x)))
closing_by n keyword text open_row k x xs false same e full more =
    rw (same, e) (more_glue (opened keyword text open_row) (line_start keyword (length open_row)) (text x) (open_text n keyword text (length open_row + 1) xs)
    (close (in_line_after n (length open_row + 1) xs)) (opened keyword text (open_row ++ x ∷ [])) (flat_map (line keyword text) (rows_from n (open_row ++ x ∷ []) xs))
    (opened_snoc keyword text open_row x) more)

pub closing : (n : ℕ) (keyword : List ℕ) (text : ℕ → List ℕ) (open_row : List ℕ) (k : ℕ) (xs : List ℕ) → k ≡ length open_row → Closes n keyword text open_row k xs
closing n keyword text [] k [] same = rw same refl
closing n keyword text (y ∷ ys) k [] same = rw (same, close_more (length ys)) (simp (append_assoc, append-nil))
closing n keyword text open_row k (x ∷ xs) same = closing_by n keyword text open_row k x xs (length open_row + 1 == n) same refl (closing n keyword text [] 0 xs refl) (closing n keyword text (open_row ++ x ∷ []) (length open_row + 1) xs (sym (length-append open_row (x ∷ []))))

-- bytes given one by one are the lines of 32
pub bytes_closed : (bs : List ℕ) → open_text 32 (codes "bytes ") hex_byte 0 bs ++ close (in_line_after 32 0 bs) ≡ bytes_text bs
bytes_closed bs = closing 32 (codes "bytes ") hex_byte [] 0 bs refl

-- words given one by one are the lines of eight
pub data_closed : (ws : List ℕ) → open_text 8 (codes "data") spaced 0 ws ++ close (in_line_after 8 0 ws) ≡ data_text ws
data_closed ws = closing 8 (codes "data") spaced [] 0 ws refl

line_start_after : (keyword : List ℕ) (i : ℕ) → line_start keyword (i + 1) ≡ []
line_start_after keyword i = grind (arith, common_steps)

line_end_full : (n i : ℕ) → i + 1 ≡ n → line_end n i ≡ 10 ∷ []
line_end_full n i e = grind (arith, common_steps)

line_end_open : (n i : ℕ) → i + 1 < n → line_end n i ≡ []
line_end_open n i h = grind (arith, common_steps)

next_in_line_full : (n i : ℕ) → i + 1 ≡ n → next_in_line n i ≡ 0
next_in_line_full n i e = grind (arith, common_steps)

next_in_line_open : (n i : ℕ) → i + 1 < n → next_in_line n i ≡ i + 1
next_in_line_open n i h = grind (arith, common_steps)

-- elements that fill an open line
pub open_text_filled : (n : ℕ) (keyword : List ℕ) (text : ℕ → List ℕ) (i x : ℕ) (xs : List ℕ) → i + 1 + length xs ≡ n → open_text n keyword text i (x ∷ xs) ≡ line_start keyword i ++ flat_map text (x ∷ xs) ++ 10 ∷ []
open_text_filled n keyword text i x [] e = ap (λ t. line_start keyword i ++ text x ++ t ++ []) (line_end_full n i (omega arith)) ∙ simp (append_assoc, append-nil)
open_text_filled n keyword text i x (y ∷ ys) e =
    ap (λ t. line_start keyword i ++ text x ++ t ++ open_text n keyword text (next_in_line n i) (y ∷ ys)) (line_end_open n i (omega arith))
    ∙ ap (λ k. line_start keyword i ++ text x ++ [] ++ open_text n keyword text k (y ∷ ys)) (next_in_line_open n i (omega arith))
    ∙ ap (λ t. line_start keyword i ++ text x ++ [] ++ t) (open_text_filled n keyword text (i + 1) y ys (omega arith))
    ∙ ap (λ t. line_start keyword i ++ text x ++ [] ++ (t ++ flat_map text (y ∷ ys) ++ 10 ∷ [])) (line_start_after keyword i)
    ∙ simp (append_assoc, append-nil)

pub in_line_after_filled : (n i x : ℕ) (xs : List ℕ) → i + 1 + length xs ≡ n → in_line_after n i (x ∷ xs) ≡ 0
in_line_after_filled n i x [] e = next_in_line_full n i (omega arith)
in_line_after_filled n i x (y ∷ ys) e = ap (λ k. in_line_after n k (y ∷ ys)) (next_in_line_open n i (omega arith)) ∙ in_line_after_filled n (i + 1) y ys (omega arith)

-- a whole row at once, where no line is open
pub open_text_whole : (n : ℕ) (keyword : List ℕ) (text : ℕ → List ℕ) (row : List ℕ) → length row ≡ n → 0 < n → open_text n keyword text 0 row ≡ line keyword text row
open_text_whole n keyword text [] e h = absurd (omega (arith, e))
open_text_whole n keyword text (x ∷ xs) e h = open_text_filled n keyword text 0 x xs (omega (arith, e))

pub in_line_after_whole : (n : ℕ) (row : List ℕ) → length row ≡ n → 0 < n → in_line_after n 0 row ≡ 0
in_line_after_whole n [] e h = absurd (omega (arith, e))
in_line_after_whole n (x ∷ xs) e h = in_line_after_filled n 0 x xs (omega (arith, e))

-- a whole row at once, and what follows
pub open_text_row : (n : ℕ) (keyword : List ℕ) (text : ℕ → List ℕ) (row rest : List ℕ) → length row ≡ n → 0 < n → open_text n keyword text 0 (row ++ rest) ≡ line keyword text row ++ open_text n keyword text 0 rest
open_text_row n keyword text row rest e h = open_text_append n keyword text 0 row rest ∙ ap (λ t. t ++ open_text n keyword text (in_line_after n 0 row) rest) (open_text_whole n keyword text row e h) ∙ ap (λ k. line keyword text row ++ open_text n keyword text k rest) (in_line_after_whole n row e h)

pub in_line_after_row : (n : ℕ) (row rest : List ℕ) → length row ≡ n → 0 < n → in_line_after n 0 (row ++ rest) ≡ in_line_after n 0 rest
in_line_after_row n row rest e h = in_line_after_append n 0 row rest ∙ ap (λ k. in_line_after n k rest) (in_line_after_whole n row e h)

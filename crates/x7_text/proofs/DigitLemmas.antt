-- Digits in vector registers, and what is not the text of anything.
use Rattle.std.proofs.Common.{Result, Ok, Err, ◌≡◌, ℕ, zero, suc, ◌+◌, ◌*◌, ◌/◌, ◌%◌, ◌^◌, ◌<◌, Bool, true, false, IsTrue, List, [], ◌∷◌, ◌++◌, length, map, replicate, bit_and, refl, ap, ap₂, subst, sym, ◌∙◌, arith, eqb, get_or, ◌-◌, take_all}
use Rattle.std.proofs.lemmas.Bool.Decides.{Decides-eqb}
use Rattle.std.proofs.lemmas.Grind.{common_steps}
use Rattle.std.proofs.lemmas.Slice.Eq.{slice_eq-Decides}
use Rattle.std.specs.Cmp.Lexicographic.{pointwise}
use Rattle.std.specs.Char.{is_ascii_digit}
use Rattle.std.proofs.lemmas.Fmt.{decimal_digit, IsAscii-decimal, parse-decimal}
use Rattle.std.proofs.lemmas.Str.{IsUtf8-from_ascii}
use Rattle.std.specs.Fmt.{decimal}
use Rattle.std.specs.Str.{IsUtf8}
use Rattle.std.specs.Str.Parse.{ParsesUnsigned}
use Rattle.std.proofs.lemmas.Nat.Bits.{and_high}
use Rattle.std.proofs.lemmas.Simd.{pick_l_whole}
use Rattle.std.specs.List.{flat_map, range_with_len}
use lib.Lanes.{Each1, pick_l, zip2}
use Rattle.std.specs.Simd.{first_chunks}
use Rattle.x7_words.specs.Word.{AreBytes, bytes_of_word}
use Rattle.x7_text.specs.Digits.{hex_byte, hex_word}
use Rattle.x7_text.specs.DigitValue.{bytes_value, digit_value, pairs_value}
use Rattle.x7_text.proofs.ValueLemmas.{bytes_back, word_digits}
use Rattle.x7_words.proofs.WordLemmas.{word_bytes}

number_step : (x : ℕ) → x < 256 → (bit_and x 15 + x / 2 ^ 6 * 9 % 256) % 256 ≡ digit_value x
number_step x h = let low : bit_and x 15 ≡ x % 2 ^ 4 = and_high x 4 0 ∙ omega arith in omega (arith, low)

-- what the sum of `numbers_of` and `numbers_of_eight` gives
pub numbers_are : (xs : List ℕ) (n : ℕ) → length xs ≡ n → Each1 (λ c. c < 256) xs
    → zip2 (λ a b. (a + b) % 256) (zip2 bit_and xs (replicate n 15)) (zip2 (λ a b. a * b % 256) (zip2 (λ a b. a / 2 ^ b) xs (replicate n 6)) (replicate n 9)) ≡ map digit_value xs
numbers_are [] zero e h = refl
numbers_are [] (suc n) e h = absurd (omega (arith, e))
numbers_are (x ∷ xs) zero e h = absurd (omega (arith, e))
numbers_are (x ∷ xs) (suc n) e h = ap₂ (λ (a : ℕ) (b : List ℕ). a ∷ b) (number_step x h.0) (numbers_are xs n (omega (arith, e)) h.1)

abbrev pub evens : List ℕ
evens = 0 ∷ 2 ∷ 4 ∷ 6 ∷ 8 ∷ 10 ∷ 12 ∷ 14 ∷ 16 ∷ 18 ∷ 20 ∷ 22 ∷ 24 ∷ 26 ∷ 28 ∷ 30 ∷ 32 ∷ 34 ∷ 36 ∷ 38 ∷ 40 ∷ 42 ∷ 44 ∷ 46 ∷ 48 ∷ 50 ∷ 52 ∷ 54 ∷ 56 ∷ 58 ∷ 60 ∷ 62 ∷ []

abbrev pub odds : List ℕ
odds = 1 ∷ 3 ∷ 5 ∷ 7 ∷ 9 ∷ 11 ∷ 13 ∷ 15 ∷ 17 ∷ 19 ∷ 21 ∷ 23 ∷ 25 ∷ 27 ∷ 29 ∷ 31 ∷ 33 ∷ 35 ∷ 37 ∷ 39 ∷ 41 ∷ 43 ∷ 45 ∷ 47 ∷ 49 ∷ 51 ∷ 53 ∷ 55 ∷ 57 ∷ 59 ∷ 61 ∷ 63 ∷ []

abbrev raw_pairs : List ℕ → List ℕ
raw_pairs [] = []
raw_pairs (a ∷ []) = []
raw_pairs (a ∷ b ∷ cs) = (a * 16 % 256 + b) % 256 ∷ raw_pairs cs

raw_are : (xs : List ℕ) → raw_pairs xs ≡ pairs_value xs
raw_are [] = refl
raw_are (a ∷ []) = refl
raw_are (a ∷ b ∷ cs) = ap₂ (λ (x : ℕ) (t : List ℕ). x ∷ t) (let e : (a * 16 % 256 + b) % 256 ≡ (a * 16 + b) % 256 = omega arith in e) (raw_are cs)

abbrev pub Paired : List ℕ → Type 0
Paired xs = zip2 (λ a b. (a + b) % 256) (zip2 (λ a b. a * 2 ^ b % 256) (pick_l 0 (xs ++ xs) evens) (replicate 32 4)) (pick_l 0 (xs ++ xs) odds) ≡ raw_pairs xs

abbrev pub FromPairs : List ℕ → Type 0
FromPairs xs = zip2 (λ a b. (a + b) % 256) (zip2 (λ a b. a * 2 ^ b % 256) (pick_l 0 (xs ++ xs) evens) (replicate 32 4)) (pick_l 0 (xs ++ xs) odds) ≡ pairs_value xs

raw_paired : (xs : List ℕ) → length xs ≡ 64 → Paired xs
raw_paired xs e = let h : Paired (pick_l 0 xs (range_with_len 0 64)) = refl in subst Paired (pick_l_whole 0 xs 64 e) h

pub paired : (xs : List ℕ) → length xs ≡ 64 → FromPairs xs
paired xs e = raw_paired xs e ∙ raw_are xs

-- the bytes of eight halves by their shuffled lanes
abbrev pub EightPaired : List ℕ → Type 0
EightPaired xs = zip2 (λ a b. (a + b) % 256) (zip2 (λ a b. a * 2 ^ b % 256) (pick_l 0 (xs ++ xs) (0 ∷ 2 ∷ 4 ∷ 6 ∷ [])) (replicate 4 4)) (pick_l 0 (xs ++ xs) (1 ∷ 3 ∷ 5 ∷ 7 ∷ [])) ≡ raw_pairs xs

abbrev pub FromEight : List ℕ → Type 0
FromEight xs = zip2 (λ a b. (a + b) % 256) (zip2 (λ a b. a * 2 ^ b % 256) (pick_l 0 (xs ++ xs) (0 ∷ 2 ∷ 4 ∷ 6 ∷ [])) (replicate 4 4)) (pick_l 0 (xs ++ xs) (1 ∷ 3 ∷ 5 ∷ 7 ∷ [])) ≡ pairs_value xs

eight_raw : (xs : List ℕ) → length xs ≡ 8 → EightPaired xs
eight_raw xs e = let h : EightPaired (pick_l 0 xs (range_with_len 0 8)) = refl in subst EightPaired (pick_l_whole 0 xs 8 e) h

pub eight_paired : (xs : List ℕ) → length xs ≡ 8 → FromEight xs
eight_paired xs e = eight_raw xs e ∙ raw_are xs

pub pairs_digits : (ds : List ℕ) → pairs_value (map digit_value ds) ≡ bytes_value ds
pairs_digits [] = refl
pairs_digits (a ∷ []) = refl
pairs_digits (a ∷ b ∷ cs) = ap (λ t. (digit_value a * 16 + digit_value b) % 256 ∷ t) (pairs_digits cs)

pub refuted : (b : Bool) → b ≡ false → IsTrue b → ⊥
refuted true e h = absurd cc
refuted false e h = cc

-- two texts compared
pub same_yes : (a b : List ℕ) (r : Bool) → r ≡ pointwise eqb a b → r ≡ true → a ≡ b
same_yes a b r e h = (slice_eq-Decides Decides-eqb a b (pointwise eqb a b) refl).0 (sym e ∙ h)

pub same_no : (a b : List ℕ) (r : Bool) → r ≡ pointwise eqb a b → a ≡ b → r ≡ true
same_no a b r e h = e ∙ (slice_eq-Decides Decides-eqb a b (pointwise eqb a b) refl).1 h

-- digits that written out again are others are no digits
pub no_bytes : (ds known r : List ℕ) (b : Bool) → r ≡ bytes_value ds → known ≡ flat_map hex_byte r → b ≡ false → (known ≡ ds → IsTrue b) → (bs : List ℕ) → AreBytes bs → ds ≡ flat_map hex_byte bs → ⊥
no_bytes ds known r b e f n is bs h k = refuted b n (is (f ∙ ap (flat_map hex_byte) (e ∙ ap bytes_value k ∙ bytes_back bs h) ∙ sym k))

-- the one group of eight digits
pub chunk_whole : (ds : List ℕ) (cs : List (List ℕ)) (d : List ℕ) → cs ≡ first_chunks 8 (length ds / 8) ds → length ds ≡ 8 → get_or cs 0 d ≡ ds
chunk_whole ds cs d e l =
    let one : length ds / 8 ≡ 1 = omega (arith, l) in
    ap (λ (k : List (List ℕ)). get_or k 0 d) (e ∙ ap (λ (n : ℕ). first_chunks 8 n ds) one) ∙ take_all 8 ds (omega (arith, l))

pub no_word : (ds chunk known r : List ℕ) (b : Bool) → (length ds ≡ 8 → chunk ≡ ds) → r ≡ bytes_value chunk → known ≡ flat_map hex_byte r → b ≡ false → (known ≡ ds → IsTrue b) → (w : ℕ) → w < 2 ^ 32 → ds ≡ hex_word w → ⊥
no_word ds chunk known r b whole e f n is w h k =
    let bytes : r ≡ bytes_of_word w = e ∙ ap bytes_value (whole (ap length k) ∙ k ∙ word_digits w h) ∙ bytes_back (bytes_of_word w) (word_bytes w) in
    refuted b n (is (f ∙ ap (flat_map hex_byte) bytes ∙ sym (word_digits w h) ∙ sym k))

pub yes_word : (ds known r : List ℕ) (w : ℕ) → known ≡ ds → known ≡ flat_map hex_byte r → bytes_of_word w ≡ r → w < 2 ^ 32 → ds ≡ hex_word w
yes_word ds known r w same f back h = sym same ∙ f ∙ ap (flat_map hex_byte) (sym back) ∙ sym (word_digits w h)

-- decimal digits are UTF-8 and parse; a text that does not parse, or to another number, is no number's decimal digits
pub utf8_decimal : (ds : List ℕ) (n : ℕ) → n < 2 ^ 32 → ds ≡ decimal n → IsUtf8 ds
utf8_decimal ds n h e = let P : List ℕ → Type 0 = λ t. IsUtf8 t in subst P (sym e) (IsUtf8-from_ascii (decimal n) (IsAscii-decimal n (omega arith)))

pub not_parsed : {E : Type 0} (ds : List ℕ) (r : Result ℕ E) (e : E) → r ≡ Err e → ParsesUnsigned 32 10 ds r → (n : ℕ) → n < 2 ^ 32 → ds ≡ decimal n → ⊥
not_parsed ds r e was p n h k = let yes : r ≡ Ok n = parse-decimal 32 n ds r h (omega arith) k p in cc

pub no_decimal : {E : Type 0} (ds known : List ℕ) (r : Result ℕ E) (m : ℕ) (b : Bool) → r ≡ Ok m → ParsesUnsigned 32 10 ds r → known ≡ decimal m → b ≡ false → (known ≡ ds → IsTrue b) → (n : ℕ) → n < 2 ^ 32 → ds ≡ decimal n → ⊥
no_decimal ds known r m b was p f off is n h k =
    let yes : r ≡ Ok n = parse-decimal 32 n ds r h (omega arith) k p in
    let same : m ≡ n = cc in
    refuted b off (is (f ∙ ap decimal same ∙ sym k))

-- one digit
pub one_digit : (ds : List ℕ) (n : ℕ) → length ds ≡ 1 → is_ascii_digit (get_or ds 0 0) ≡ true → n ≡ get_or ds 0 0 - 48 → ds ≡ decimal n
one_digit [] n l d e = absurd (omega (arith, l))
one_digit (c ∷ []) n l d e =
    let small : n < 10 = grind (arith, common_steps) in
    let is : c ≡ 48 + n = grind (arith, common_steps) in
    ap (λ (x : ℕ). x ∷ []) is ∙ sym (decimal_digit n small)
one_digit (b ∷ c ∷ ds) n l d e = absurd (omega (arith, l))

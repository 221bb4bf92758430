-- Digits in vector registers.
use Rattle.std.proofs.Common.{◌≡◌, ◌==◌, ℕ, take, zero, suc, ◌+◌, ◌*◌, ◌/◌, ◌%◌, ◌^◌, ◌<◌, Bool, true, false, if◌then◌else◌, cond, codes, ltb, List, [], ◌∷◌, ◌++◌, length, map, replicate, drop, append_assoc, append-nil, bit_and, refl, ap, ap₂, sym, subst, ◌∙◌, arith, get_or, inl, inr, w8}
use Rattle.std.proofs.lemmas.Grind.{common_steps}
use Rattle.std.proofs.lemmas.Nat.Bits.{and_high}
use Rattle.std.proofs.lemmas.Bool.{cases_lt, eqb-true}
use Rattle.std.proofs.lemmas.List.{ext_get_or, get_or-map, length-map}
use Rattle.std.proofs.lemmas.Simd.{Each1-from_get_or, Each1-get_or, get_or-swz_l_below, length-swz_l, pick_l_whole, put_chunk_is, swz_l, SwzOk, SwzOk-from_below}
use Rattle.std.specs.List.{flat_map, range_with_len}
use lib.Lanes.{Each1, chunk, pick_l, put_chunk, sel_l, top, zip2}
use Rattle.std.specs.Simd.{first_chunks}
use Rattle.x7_text.specs.Digits.{hex_byte, hex_digit}
use Rattle.x7_text.specs.Row.{line}

digit_step : (x : ℕ) → x < 16 → (x + cond (top 7 (cond (ltb 9 x) 255 0)) 55 48) % 256 ≡ hex_digit x
digit_step x h = grind (arith, common_steps)

-- what the select and the sum of `eight_hex_digits` and `sixteen_hex_digits` give
pub digits_are : (xs : List ℕ) (n : ℕ) → length xs ≡ n → Each1 (λ x. x < 16) xs
    → zip2 (λ a b. (a + b) % 256) xs (sel_l (map (top 7) (zip2 (λ a b. cond (ltb a b) 255 0) (replicate n 9) xs)) (replicate n 55) (replicate n 48)) ≡ map hex_digit xs
digits_are [] zero e h = refl
digits_are [] (suc n) e h = absurd (omega (arith, e))
digits_are (x ∷ xs) zero e h = absurd (omega (arith, e))
digits_are (x ∷ xs) (suc n) e h = ap₂ (λ (a : ℕ) (b : List ℕ). a ∷ b) (digit_step x h.0) (digits_are xs n (omega (arith, e)) h.1)

-- ---- digits looked up, where the table stands once for each sixteen lanes

each : (ℕ → Bool) → ℕ → Bool
each p zero = true
each p (suc n) = if p n then each p n else false

each_step : (a b : Bool) → (if a then b else false) ≡ true → (a ≡ true) × (b ≡ true)
each_step true true e = (refl, refl)
each_step true false e = absurd (cc)
each_step false b e = absurd (cc)

each_at : (p : ℕ → Bool) (n k : ℕ) → each p n ≡ true → k < n → p k ≡ true
unfolding each
each_at p zero k e h = absurd (omega (arith, h))
each_at p (suc n) k e h = elim (cases_lt k n) [
  | inl l ↦ each_at p n k (each_step (p n) (each p n) e).1 l
  | inr g ↦ (let last : n ≡ k = omega (arith, g, h) in subst (λ (m : ℕ). p m ≡ true) last (each_step (p n) (each p n) e).0)
]

abbrev pub table : List ℕ
table = codes "0123456789ABCDEF0123456789ABCDEF0123456789ABCDEF0123456789ABCDEF"

is_digit : ℕ → Bool
is_digit k = get_or table k 0 == hex_digit (k % 16)

all_digits : each is_digit 64 ≡ true
unfolding each is_digit
all_digits = refl

table_digit : (k : ℕ) → k < 64 → get_or table k 0 ≡ hex_digit (k % 16)
unfolding is_digit
table_digit k h = eqb-true _ _ (each_at is_digit 64 k all_digits h)

pub look_up_fits : (js : List ℕ) → length js ≡ 64 → Each1 (λ n. n < 16) js → SwzOk w8 16 64 0 js
look_up_fits js long small = SwzOk-from_below w8 16 4 64 0 js refl (omega (arith, long)) small

pub looked_up : (js : List ℕ) → length js ≡ 64 → Each1 (λ n. n < 16) js → swz_l w8 16 table 0 js ≡ map hex_digit js
looked_up js long small =
    ext_get_or 0 (swz_l w8 16 table 0 js) (map hex_digit js) (length-swz_l w8 16 table 0 js ∙ sym (length-map js hex_digit)) (λ i h.
    let within : i < length js = omega (arith, h, length-swz_l w8 16 table 0 js) in
    let below : get_or js i 0 < 16 = Each1-get_or (λ n. n < 16) js i 0 within small in
    let rest : (16 * ((0 + i) / 16) + get_or js i 0) % 16 ≡ get_or js i 0 = omega (arith, below) in
    get_or-swz_l_below w8 16 table 0 js i within below ∙ table_digit (16 * ((0 + i) / 16) + get_or js i 0) (omega (arith, within, long, below)) ∙ ap hex_digit rest ∙ sym (get_or-map hex_digit js i 0 0 within))

abbrev pub positions : List ℕ
positions =
    0 ∷ 32 ∷ 1 ∷ 33 ∷ 2 ∷ 34 ∷ 3 ∷ 35 ∷ 4 ∷ 36 ∷ 5 ∷ 37 ∷ 6 ∷ 38 ∷ 7 ∷ 39 ∷ 8 ∷ 40 ∷ 9 ∷ 41 ∷ 10 ∷ 42 ∷ 11 ∷ 43 ∷ 12 ∷ 44 ∷ 13 ∷ 45 ∷ 14 ∷ 46 ∷ 15 ∷ 47 ∷ 16 ∷ 48 ∷ 17
    ∷ 49 ∷ 18 ∷ 50 ∷ 19 ∷ 51 ∷ 20 ∷ 52 ∷ 21 ∷ 53 ∷ 22 ∷ 54 ∷ 23 ∷ 55 ∷ 24 ∷ 56 ∷ 25 ∷ 57 ∷ 26 ∷ 58 ∷ 27 ∷ 59 ∷ 28 ∷ 60 ∷ 29 ∷ 61 ∷ 30 ∷ 62 ∷ 31 ∷ 63 ∷ []

low_half : (b : ℕ) → bit_and b 15 ≡ b % 2 ^ 4
low_half b = and_high b 4 0 ∙ omega arith

-- the halves of each byte
abbrev pub halves : List ℕ → List ℕ
halves bs = flat_map (λ b. b / 2 ^ 4 ∷ b % 2 ^ 4 ∷ []) bs

pub masked_are : (bs : List ℕ) → flat_map (λ b. b / 2 ^ 4 ∷ bit_and b 15 ∷ []) bs ≡ halves bs
masked_are [] = refl
masked_are (b ∷ bs) = ap₂ (λ (x : ℕ) (t : List ℕ). b / 2 ^ 4 ∷ x ∷ t) (low_half b) (masked_are bs)

abbrev pub Woven : List ℕ → Type 0
Woven bs = pick_l 0 (zip2 (λ a b. a / 2 ^ b) bs (replicate 32 4) ++ zip2 bit_and bs (replicate 32 15)) positions ≡ flat_map (λ b. b / 2 ^ 4 ∷ bit_and b 15 ∷ []) bs

woven : (bs : List ℕ) → length bs ≡ 32 → Woven bs
woven bs e = let h : Woven (pick_l 0 bs (range_with_len 0 32)) = refl in subst Woven (pick_l_whole 0 bs 32 e) h

pub halves_are : (bs : List ℕ) → length bs ≡ 32 → pick_l 0 (zip2 (λ a b. a / 2 ^ b) bs (replicate 32 4) ++ zip2 bit_and bs (replicate 32 15)) positions ≡ halves bs
halves_are bs e = woven bs e ∙ masked_are bs

pub halves_below : (bs : List ℕ) → Each1 (λ b. b < 256) bs → Each1 (λ n. n < 16) (halves bs)
halves_below [] h = tt
halves_below (b ∷ bs) h = let q : b < 256 = h.0 in (omega arith, (omega arith, halves_below bs h.1))

half_digits : (b : ℕ) → b < 256 → hex_digit (b / 2 ^ 4) ≡ hex_digit (b / 2 ^ 4 % 16)
half_digits b h = let e : b / 2 ^ 4 ≡ b / 2 ^ 4 % 16 = omega arith in ap hex_digit e

pub halves_digits : (bs : List ℕ) → Each1 (λ b. b < 256) bs → map hex_digit (halves bs) ≡ flat_map hex_byte bs
halves_digits [] h = refl
halves_digits (b ∷ bs) h = ap₂ (λ (x : ℕ) (t : List ℕ). x ∷ hex_digit (b % 16) ∷ t) (half_digits b h.0) (halves_digits bs h.1)

pub bytes_fit : (bs : List ℕ) → ((i : ℕ) → get_or bs i 0 < 256) → Each1 (λ b. b < 256) bs
bytes_fit bs h = Each1-from_get_or (λ b. b < 256) bs 0 (λ i l. h i)

-- the halves of four bytes
abbrev pub FourWoven : List ℕ → Type 0
FourWoven bs = pick_l 0 (zip2 (λ a b. a / 2 ^ b) bs (replicate 4 4) ++ zip2 bit_and bs (replicate 4 15)) (0 ∷ 4 ∷ 1 ∷ 5 ∷ 2 ∷ 6 ∷ 3 ∷ 7 ∷ []) ≡ flat_map (λ b. b / 2 ^ 4 ∷ bit_and b 15 ∷ []) bs

four_woven : (bs : List ℕ) → length bs ≡ 4 → FourWoven bs
four_woven bs e = let h : FourWoven (pick_l 0 bs (range_with_len 0 4)) = refl in subst FourWoven (pick_l_whole 0 bs 4 e) h

pub four_halves : (bs : List ℕ) → length bs ≡ 4 → pick_l 0 (zip2 (λ a b. a / 2 ^ b) bs (replicate 4 4) ++ zip2 bit_and bs (replicate 4 15)) (0 ∷ 4 ∷ 1 ∷ 5 ∷ 2 ∷ 6 ∷ 3 ∷ 7 ∷ []) ≡ halves bs
four_halves bs e = four_woven bs e ∙ masked_are bs

-- a `bytes` line, its digits stored over line ends after its keyword and a space
pub bytes_line : (bs digits : List ℕ) → digits ≡ flat_map hex_byte bs → length bs ≡ 32
    → codes "bytes " ++ (put_chunk 0 (replicate 65 10) digits ++ []) ≡ line (codes "bytes ") hex_byte bs
bytes_line bs digits e long =
    let size : length digits ≡ 64 = ap length e ∙ length_hex bs ∙ ap (λ (n : ℕ). 2 * n) long in
    let after : drop (length digits) (replicate 65 10) ≡ 10 ∷ [] = ap (λ (n : ℕ). drop n (replicate 65 10)) size in
    ap (λ t. codes "bytes " ++ t) (append-nil (put_chunk 0 (replicate 65 10) digits) ∙ put_chunk_is 0 (replicate 65 10) digits (omega (arith, size)) ∙ ap (λ t. digits ++ t) after ∙ ap (λ t. t ++ 10 ∷ []) e)
    ∙ sym (append_assoc (codes "bytes ") (flat_map hex_byte bs) (10 ∷ []))
  where
    length_hex : (xs : List ℕ) → length (flat_map hex_byte xs) ≡ 2 * length xs
    length_hex [] = refl
    length_hex (x ∷ xs) = omega (arith, length_hex xs)

-- ---- a `data` line by sixteen bytes: its digits, of which five parts are made with the bytes of what stands beside
-- them

abbrev pub beside : List ℕ
beside = codes "data \n          "

abbrev pub parts_with : (a b c d : List ℕ) → List (List ℕ)
parts_with a b c d =
    pick_l 0 (a ++ beside) (16 ∷ 17 ∷ 18 ∷ 19 ∷ 20 ∷ 0 ∷ 1 ∷ 2 ∷ 3 ∷ 4 ∷ 5 ∷ 6 ∷ 7 ∷ 20 ∷ 8 ∷ 9 ∷ [])
    ∷ pick_l 0 (pick_l 0 (a ++ b) (10 ∷ 11 ∷ 12 ∷ 13 ∷ 14 ∷ 15 ∷ 0 ∷ 16 ∷ 17 ∷ 18 ∷ 19 ∷ 20 ∷ 21 ∷ 22 ∷ 23 ∷ 0 ∷ []) ++ beside) (0 ∷ 1 ∷ 2 ∷ 3 ∷ 4 ∷ 5 ∷ 20 ∷ 7 ∷ 8 ∷ 9 ∷ 10 ∷ 11 ∷ 12 ∷ 13 ∷ 14 ∷ 20 ∷ [])
    ∷ pick_l 0 (pick_l 0 (b ++ c) (8 ∷ 9 ∷ 10 ∷ 11 ∷ 12 ∷ 13 ∷ 14 ∷ 15 ∷ 0 ∷ 16 ∷ 17 ∷ 18 ∷ 19 ∷ 20 ∷ 21 ∷ 22 ∷ []) ++ beside) (0 ∷ 1 ∷ 2 ∷ 3 ∷ 4 ∷ 5 ∷ 6 ∷ 7 ∷ 20 ∷ 9 ∷ 10 ∷ 11 ∷ 12 ∷ 13 ∷ 14 ∷ 15 ∷ [])
    ∷ pick_l 0 (pick_l 0 (c ++ d) (7 ∷ 0 ∷ 8 ∷ 9 ∷ 10 ∷ 11 ∷ 12 ∷ 13 ∷ 14 ∷ 15 ∷ 0 ∷ 16 ∷ 17 ∷ 18 ∷ 19 ∷ 20 ∷ []) ++ beside) (0 ∷ 20 ∷ 2 ∷ 3 ∷ 4 ∷ 5 ∷ 6 ∷ 7 ∷ 8 ∷ 9 ∷ 20 ∷ 11 ∷ 12 ∷ 13 ∷ 14 ∷ 15 ∷ [])
    ∷ pick_l 0 (d ++ beside) (5 ∷ 6 ∷ 7 ∷ 20 ∷ 8 ∷ 9 ∷ 10 ∷ 11 ∷ 12 ∷ 13 ∷ 14 ∷ 15 ∷ 21 ∷ 21 ∷ 21 ∷ 21 ∷ [])
    ∷ []

abbrev pub parts_of : List ℕ → List (List ℕ)
parts_of digits = parts_with (chunk 0 16 digits) (chunk 16 16 digits) (chunk 32 16 digits) (chunk 48 16 digits)

abbrev InParts : List ℕ → Type 0
InParts digits = take 77 (flat_map (λ (part : List ℕ). part) (parts_of digits)) ≡ codes "data" ++ (flat_map (λ (w : List ℕ). 32 ∷ w) (first_chunks 8 8 digits) ++ 10 ∷ [])

pub in_parts : (digits : List ℕ) → length digits ≡ 64 → InParts digits
in_parts digits e = let h : InParts (pick_l 0 digits (range_with_len 0 64)) = refl in subst InParts (pick_l_whole 0 digits 64 e) h

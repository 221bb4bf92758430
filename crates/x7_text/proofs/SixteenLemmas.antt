-- Digits of sixteen bytes in vector registers: the halves of the first eight, and those of the others.
use Rattle.std.proofs.Common.{◌≡◌, ℕ, ◌/◌, ◌^◌, ◌<◌, List, [], ◌∷◌, ◌++◌, length, get_or, map, replicate, bit_and, refl, subst, ◌∙◌}
use Rattle.std.proofs.lemmas.Simd.{Each1-chunk, pick_l_whole}
use lib.Lanes.{Each1, chunk, pick_l, zip2}
use Rattle.std.specs.List.{flat_map, range_with_len}
use Rattle.x7_text.specs.Digits.{hex_byte, hex_digit}
use Rattle.x7_text.proofs.BlockLemmas.{bytes_fit, halves, halves_below, halves_digits, masked_are}

abbrev pub first_places : List ℕ
first_places = 0 ∷ 16 ∷ 1 ∷ 17 ∷ 2 ∷ 18 ∷ 3 ∷ 19 ∷ 4 ∷ 20 ∷ 5 ∷ 21 ∷ 6 ∷ 22 ∷ 7 ∷ 23 ∷ []

abbrev pub second_places : List ℕ
second_places = 8 ∷ 24 ∷ 9 ∷ 25 ∷ 10 ∷ 26 ∷ 11 ∷ 27 ∷ 12 ∷ 28 ∷ 13 ∷ 29 ∷ 14 ∷ 30 ∷ 15 ∷ 31 ∷ []

abbrev woven_at : List ℕ → List ℕ → List ℕ
woven_at places bs = pick_l 0 (zip2 (λ a b. a / 2 ^ b) bs (replicate 16 4) ++ zip2 bit_and bs (replicate 16 15)) places

abbrev First : List ℕ → Type 0
First bs = woven_at first_places bs ≡ flat_map (λ b. b / 2 ^ 4 ∷ bit_and b 15 ∷ []) (chunk 0 8 bs)

abbrev Second : List ℕ → Type 0
Second bs = woven_at second_places bs ≡ flat_map (λ b. b / 2 ^ 4 ∷ bit_and b 15 ∷ []) (chunk 8 8 bs)

pub first_halves : (bs : List ℕ) → length bs ≡ 16 → woven_at first_places bs ≡ halves (chunk 0 8 bs)
first_halves bs e = (let h : First (pick_l 0 bs (range_with_len 0 16)) = refl in subst First (pick_l_whole 0 bs 16 e) h) ∙ masked_are (chunk 0 8 bs)

pub second_halves : (bs : List ℕ) → length bs ≡ 16 → woven_at second_places bs ≡ halves (chunk 8 8 bs)
second_halves bs e = (let h : Second (pick_l 0 bs (range_with_len 0 16)) = refl in subst Second (pick_l_whole 0 bs 16 e) h) ∙ masked_are (chunk 8 8 bs)

pub part_below : (bs : List ℕ) (i : ℕ) → ((k : ℕ) → get_or bs k 0 < 256) → Each1 (λ n. n < 16) (halves (chunk i 8 bs))
part_below bs i h = halves_below (chunk i 8 bs) (Each1-chunk (λ b. b < 256) i 8 bs (bytes_fit bs h))

pub part_digits : (bs : List ℕ) (i : ℕ) → ((k : ℕ) → get_or bs k 0 < 256) → map hex_digit (halves (chunk i 8 bs)) ≡ flat_map hex_byte (chunk i 8 bs)
part_digits bs i h = halves_digits (chunk i 8 bs) (Each1-chunk (λ b. b < 256) i 8 bs (bytes_fit bs h))

abbrev Cut : List ℕ → Type 0
Cut bs = chunk 0 8 bs ++ chunk 8 8 bs ≡ bs

pub cut_in_two : (bs : List ℕ) → length bs ≡ 16 → chunk 0 8 bs ++ chunk 8 8 bs ≡ bs
cut_in_two bs e = let h : Cut (pick_l 0 bs (range_with_len 0 16)) = refl in subst Cut (pick_l_whole 0 bs 16 e) h

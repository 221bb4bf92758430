-- The digits of words and of their bytes.
use Rattle.std.proofs.Common.{◌≡◌, ℕ, zero, suc, ◌+◌, ◌*◌, ◌/◌, ◌%◌, ◌^◌, ◌<◌, List, [], ◌∷◌, ◌++◌, length, map, refl, ap₂, arith}
use Rattle.std.specs.List.{flat_map}
use Rattle.std.specs.Simd.{first_chunks}
use lib.Lanes.{Each1}
use Rattle.x7_text.specs.Digits.{hex_byte, hex_word}
use Rattle.x7_words.specs.Word.{word_of_bytes, words_of_bytes}

-- the digits of four bytes are those of their word
hex_word_of_bytes : (a b c d : ℕ) → a < 256 → b < 256 → c < 256 → d < 256 → hex_byte a ++ hex_byte b ++ hex_byte c ++ hex_byte d ≡ hex_word (word_of_bytes (a ∷ b ∷ c ∷ d ∷ []))
hex_word_of_bytes a b c d ha hb hc hd =
    let w : ℕ = a * 2 ^ 24 + b * 2 ^ 16 + c * 2 ^ 8 + d in
    let e1 : a / 2 ^ 4 % 16 ≡ (a * 2 ^ 24 + b * 2 ^ 16 + c * 2 ^ 8 + d) / 2 ^ 28 % 16 = omega arith in
    let e2 : a % 16 ≡ (a * 2 ^ 24 + b * 2 ^ 16 + c * 2 ^ 8 + d) / 2 ^ 24 % 16 = omega arith in
    let e3 : b / 2 ^ 4 % 16 ≡ (a * 2 ^ 24 + b * 2 ^ 16 + c * 2 ^ 8 + d) / 2 ^ 20 % 16 = omega arith in
    let e4 : b % 16 ≡ (a * 2 ^ 24 + b * 2 ^ 16 + c * 2 ^ 8 + d) / 2 ^ 16 % 16 = omega arith in
    let e5 : c / 2 ^ 4 % 16 ≡ (a * 2 ^ 24 + b * 2 ^ 16 + c * 2 ^ 8 + d) / 2 ^ 12 % 16 = omega arith in
    let e6 : c % 16 ≡ (a * 2 ^ 24 + b * 2 ^ 16 + c * 2 ^ 8 + d) / 2 ^ 8 % 16 = omega arith in
    let e7 : d / 2 ^ 4 % 16 ≡ (a * 2 ^ 24 + b * 2 ^ 16 + c * 2 ^ 8 + d) / 2 ^ 4 % 16 = omega arith in
    let e8 : d % 16 ≡ (a * 2 ^ 24 + b * 2 ^ 16 + c * 2 ^ 8 + d) % 16 = omega arith in
    cc

pub hex_words : (k : ℕ) (bs : List ℕ) → length bs ≡ 4 * k → Each1 (λ b. b < 256) bs → first_chunks 8 k (flat_map hex_byte bs) ≡ map hex_word (words_of_bytes bs)
hex_words zero [] e h = refl
hex_words zero (a ∷ bs) e h = absurd (omega (arith, e))
hex_words (suc k) [] e h = absurd (omega (arith, e))
hex_words (suc k) (a ∷ []) e h = absurd (omega (arith, e))
hex_words (suc k) (a ∷ b ∷ []) e h = absurd (omega (arith, e))
hex_words (suc k) (a ∷ b ∷ c ∷ []) e h = absurd (omega (arith, e))
hex_words (suc k) (a ∷ b ∷ c ∷ d ∷ bs) e h = ap₂ (λ (x : List ℕ) (t : List (List ℕ)). x ∷ t) (hex_word_of_bytes a b c d h.0 h.1.0 h.1.1.0 h.1.1.1.0) (hex_words k bs (omega (arith, e)) h.1.1.1.1)

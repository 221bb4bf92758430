-- Digits lead back to what they are of.
use Rattle.std.proofs.Common.{◌≡◌, ℕ, ◌+◌, ◌*◌, ◌/◌, ◌%◌, ◌^◌, ◌<◌, List, [], ◌∷◌, ◌++◌, refl, ap, ap₂, ◌∙◌, arith}
use Rattle.std.proofs.lemmas.Grind.{common_steps}
use Rattle.std.specs.List.{flat_map}
use Rattle.x7_words.specs.Word.{AreBytes, bytes_of_word, word_of_bytes}
use Rattle.x7_words.proofs.WordLemmas.{word_whole, word_bytes}
use Rattle.x7_text.specs.Digits.{hex_byte, hex_digit, hex_word}
use Rattle.x7_text.specs.DigitValue.{byte_value, bytes_value, digit_value, word_value}

pub digit_back : (n : ℕ) → n < 16 → digit_value (hex_digit n) ≡ n
digit_back n h = grind (arith, common_steps)

pub byte_back : (b : ℕ) → b < 256 → byte_value (hex_digit (b / 2 ^ 4 % 16)) (hex_digit (b % 16)) ≡ b
byte_back b h =
    ap₂ (λ x y. (x * 16 + y) % 256) (digit_back (b / 2 ^ 4 % 16) (omega arith)) (digit_back (b % 16) (omega arith)) ∙ (let e : (b / 2 ^ 4 % 16 * 16 + b % 16) % 256 ≡ b = omega arith in e)

pub bytes_back : (bs : List ℕ) → AreBytes bs → bytes_value (flat_map hex_byte bs) ≡ bs
bytes_back [] h = refl
bytes_back (b ∷ bs) h = ap₂ (λ (x : ℕ) (t : List ℕ). x ∷ t) (byte_back b h.0) (bytes_back bs h.1)

-- the bytes of digits, with others after them
pub bytes_value_on : (bs rest : List ℕ) → AreBytes bs → bytes_value (flat_map hex_byte bs ++ rest) ≡ bs ++ bytes_value rest
bytes_value_on [] rest h = refl
bytes_value_on (b ∷ bs) rest h = ap₂ (λ (x : ℕ) (t : List ℕ). x ∷ t) (byte_back b h.0) (bytes_value_on bs rest h.1)

-- the digits of a word are those of its bytes
pub word_digits : (w : ℕ) → w < 2 ^ 32 → hex_word w ≡ flat_map hex_byte (bytes_of_word w)
word_digits w h =
    let e1 : w / 2 ^ 28 % 16 ≡ w / 2 ^ 24 % 256 / 2 ^ 4 % 16 = omega arith in
    let e2 : w / 2 ^ 24 % 16 ≡ w / 2 ^ 24 % 256 % 16 = omega arith in
    let e3 : w / 2 ^ 20 % 16 ≡ w / 2 ^ 16 % 256 / 2 ^ 4 % 16 = omega arith in
    let e4 : w / 2 ^ 16 % 16 ≡ w / 2 ^ 16 % 256 % 16 = omega arith in
    let e5 : w / 2 ^ 12 % 16 ≡ w / 2 ^ 8 % 256 / 2 ^ 4 % 16 = omega arith in
    let e6 : w / 2 ^ 8 % 16 ≡ w / 2 ^ 8 % 256 % 16 = omega arith in
    let e7 : w / 2 ^ 4 % 16 ≡ w % 256 / 2 ^ 4 % 16 = omega arith in
    let e8 : w % 16 ≡ w % 256 % 16 = omega arith in
    cc

pub word_back : (w : ℕ) → w < 2 ^ 32 → word_value (hex_word w) ≡ w
word_back w h = ap word_value (word_digits w h) ∙ ap word_of_bytes (bytes_back (bytes_of_word w) (word_bytes w)) ∙ word_whole w h

-- What upper-case hexadecimal digits stand for; of what is no digit nothing is said (this project's choice).
use Rattle.std.specs.Prelude.{ℕ, ◌+◌, ◌*◌, ◌/◌, ◌%◌, List, [], ◌∷◌}
use Rattle.x7_words.specs.Word.{word_of_bytes}

-- the number that a digit from `0` to `9` (48 to 57) or from `A` to `F` (65 to 70) stands for: its low four bits, and 9
-- more for a letter
abbrev pub digit_value : ℕ → ℕ
digit_value c = c % 16 + 9 * (c / 64)

-- the byte that two digits stand for; `% 256` keeps it a byte where they aren't digits
abbrev pub byte_value : ℕ → ℕ → ℕ
byte_value high low = (digit_value high * 16 + digit_value low) % 256

-- the bytes that pairs of digits stand for; an odd last digit stands for none
abbrev pub bytes_value : List ℕ → List ℕ
bytes_value [] = []
bytes_value (a ∷ []) = []
bytes_value (a ∷ b ∷ cs) = byte_value a b ∷ bytes_value cs

-- the word that eight digits stand for
abbrev pub word_value : List ℕ → ℕ
word_value cs = word_of_bytes (bytes_value cs)

-- the bytes of pairs of numbers below 16, the high half of each byte first, without an odd last number; `% 256` keeps
-- each a byte
abbrev pub pairs_value : List ℕ → List ℕ
pairs_value [] = []
pairs_value (a ∷ []) = []
pairs_value (a ∷ b ∷ cs) = (a * 16 + b) % 256 ∷ pairs_value cs

-- What hexadecimal digits of either case stand for (this project's choice).
use Rattle.std.specs.Prelude.{ℕ, ◌+◌, ◌*◌, List, [], ◌∷◌, Option, None, Some}
use Rattle.x7_words.specs.Characters.{number_of_digit}

-- the byte of two digits' numbers, the high one first; none where one of them is none
abbrev pub byte_of : Option ℕ → Option ℕ → Option ℕ
byte_of (Some high) (Some low) = Some (16 * high + low)
byte_of _ _ = None

-- a byte before bytes; none where one of the two is none
abbrev pub byte_before : Option ℕ → Option (List ℕ) → Option (List ℕ)
byte_before (Some b) (Some bs) = Some (b ∷ bs)
byte_before _ _ = None

-- the bytes that pairs of digits stand for; none for an odd count of digits, and where one is no digit
abbrev pub bytes_of_pairs : List ℕ → Option (List ℕ)
bytes_of_pairs [] = Some []
bytes_of_pairs (a ∷ []) = None
bytes_of_pairs (a ∷ b ∷ cs) = byte_before (byte_of (number_of_digit a) (number_of_digit b)) (bytes_of_pairs cs)

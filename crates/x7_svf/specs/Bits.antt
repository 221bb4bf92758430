-- The bits of hexadecimal digits, lowest first (this project's profile of SVF).
use Rattle.std.specs.Prelude.{ℕ, zero, suc, ◌+◌, ◌-◌, ◌/◌, ◌%◌, ◌^◌, ◌*◌, ◌==◌, nat_lt, Bool, false, if◌then◌else◌, List, [], ◌∷◌, length, slice_index}
use Rattle.std.specs.List.{flat_map}
use Rattle.x7_words.specs.Characters.{digit_number}

-- bit i, from 0, of digits, each of which has four: the last digit has the four lowest; 0 past the first digit
abbrev pub bit_of : List ℕ → ℕ → Bool
bit_of ds i = if nat_lt (i / 4) (length ds) then digit_number (slice_index ds (length ds - 1 - i / 4)) / 2 ^ (i % 4) % 2 == 1 else false

-- n bits of digits from bit i on, the lowest first
abbrev pub bits_from : List ℕ → ℕ → ℕ → List Bool
bits_from ds i zero = []
bits_from ds i (suc n) = bit_of ds i ∷ bits_from ds (i + 1) n

-- the n lowest bits of digits
abbrev pub bits_of : ℕ → List ℕ → List Bool
bits_of n ds = bits_from ds 0 n

-- ---- bytes

-- the bits of a byte, the highest first
abbrev pub byte_bits : ℕ → List Bool
byte_bits b =
    (b / 128 % 2 == 1) ∷ (b / 64 % 2 == 1) ∷ (b / 32 % 2 == 1) ∷ (b / 16 % 2 == 1) ∷ (b / 8 % 2 == 1) ∷ (b / 4 % 2 == 1) ∷ (b / 2 % 2 == 1) ∷ (b % 2 == 1) ∷ []

-- the bits of bytes, one byte after another
abbrev pub bytes_bits : List ℕ → List Bool
bytes_bits bytes = flat_map byte_bits bytes

-- four bits in reverse order: the lowest becomes the highest
abbrev pub mirrored_digit : ℕ → ℕ
mirrored_digit n = n % 2 * 8 + n / 2 % 2 * 4 + n / 4 % 2 * 2 + n / 8 % 2

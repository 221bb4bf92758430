-- Hexadecimal digits, in upper case, and decimal ones (this project's choice).
use Rattle.std.specs.Prelude.{◌≡◌, ◌≢◌, ℕ, ◌+◌, ◌/◌, ◌%◌, ◌<◌, ◌^◌, nat_lt, if◌then◌else◌, List, [], ◌∷◌, decimal, Option, MatchOption}

-- the byte of the digit of a number below 16: `0` to `9`, and then `A` to `F`
abbrev pub hex_digit : ℕ → ℕ
hex_digit n = if nat_lt n 10 then 48 + n else 55 + n

-- the two digits of a byte, the high half first
abbrev pub hex_byte : ℕ → List ℕ
hex_byte b = hex_digit (b / 2 ^ 4 % 16) ∷ hex_digit (b % 16) ∷ []

-- the eight digits of a word, the highest first
abbrev pub hex_word : ℕ → List ℕ
hex_word w =
    hex_digit (w / 2 ^ 28 % 16) ∷ hex_digit (w / 2 ^ 24 % 16) ∷ hex_digit (w / 2 ^ 20 % 16) ∷ hex_digit (w / 2 ^ 16 % 16)
    ∷ hex_digit (w / 2 ^ 12 % 16) ∷ hex_digit (w / 2 ^ 8 % 16) ∷ hex_digit (w / 2 ^ 4 % 16) ∷ hex_digit (w % 16) ∷ []

-- the most decimal digits that a number of 64 bits has
abbrev pub most_digits : ℕ
most_digits = 20

-- what was found is the number below the limit that these are the decimal digits of, without leading zeros; nothing
-- where there is no such number
abbrev pub IsDecimalBelow : ℕ → List ℕ → Option ℕ → Type 0
IsDecimalBelow limit digits found = MatchOption found ((n : ℕ) → n < limit → digits ≢ decimal n) (λ n. (n < limit) × (digits ≡ decimal n))

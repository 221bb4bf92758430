-- The characters of texts by their bytes (ASCII).
use Rattle.std.specs.Prelude.{ℕ, ◌-◌, ◌&&◌, ◌||◌, nat_le, Bool, if◌then◌else◌, Option, Some, None}

-- the byte that ends a line: 0A
abbrev pub line_end_byte : ℕ
line_end_byte = 10

-- the byte that may stand before a line end: 0D
abbrev pub return_byte : ℕ
return_byte = 13

-- a tab
abbrev pub tab_byte : ℕ
tab_byte = 9

-- a space
abbrev pub space_byte : ℕ
space_byte = 32

-- `!`
abbrev pub exclamation_byte : ℕ
exclamation_byte = 33

-- `(`
abbrev pub open_bracket_byte : ℕ
open_bracket_byte = 40

-- `)`
abbrev pub close_bracket_byte : ℕ
close_bracket_byte = 41

-- `+`
abbrev pub plus_byte : ℕ
plus_byte = 43

-- `-`
abbrev pub minus_byte : ℕ
minus_byte = 45

-- `.`
abbrev pub point_byte : ℕ
point_byte = 46

-- `/`
abbrev pub slash_byte : ℕ
slash_byte = 47

-- `:`
abbrev pub colon_byte : ℕ
colon_byte = 58

-- `;`
abbrev pub semicolon_byte : ℕ
semicolon_byte = 59

-- `E`, which stands before the exponent of a number
abbrev pub exponent_byte : ℕ
exponent_byte = 69

-- ---- digits

-- a decimal digit, `0` to `9`
abbrev pub is_decimal_digit : ℕ → Bool
is_decimal_digit byte = nat_le 48 byte && nat_le byte 57

-- a hexadecimal digit that is an upper-case letter, `A` to `F`
abbrev pub is_upper_digit : ℕ → Bool
is_upper_digit byte = nat_le 65 byte && nat_le byte 70

-- a hexadecimal digit that is a lower-case letter, `a` to `f`
abbrev pub is_lower_digit : ℕ → Bool
is_lower_digit byte = nat_le 97 byte && nat_le byte 102

-- a hexadecimal digit of either case
abbrev pub is_hex_digit : ℕ → Bool
is_hex_digit byte = is_decimal_digit byte || is_upper_digit byte || is_lower_digit byte

-- the number that a hexadecimal digit of either case stands for; none for any other byte
abbrev pub number_of_digit : ℕ → Option ℕ
number_of_digit byte =
    if is_decimal_digit byte then Some (byte - 48)
    else if is_upper_digit byte then Some (byte - 55)
    else if is_lower_digit byte then Some (byte - 87)
    else None

-- the number that a hexadecimal digit of either case stands for; of any other byte the number has no meaning
abbrev pub digit_number : ℕ → ℕ
digit_number byte = if nat_le byte 57 then byte - 48 else (if nat_le byte 70 then byte - 55 else byte - 87)

-- Data records: the places that they cover, the bytes that they give, and one record more (this project's choice).
use Rattle.std.specs.Prelude.{◌≡◌, ℕ, zero, suc, ◌+◌, ◌-◌, ◌==◌, ◌&&◌, ◌||◌, nat_le, nat_lt, max, Bool, true, false, if◌then◌else◌, List, [], ◌∷◌, length, map, get_or, Option, None, Some, Result, Ok, Err}
use Rattle.std.specs.List.{range_with_len}
use Rattle.x7_words.specs.Flash.{erased_byte, flash_limit}
use Rattle.x7_mcs.specs.declared.fault.McsFault.{McsFault}
use Rattle.x7_mcs.specs.declared.fault.McsFault.TheVariants as fault

-- the first place of a data record, and its bytes
pub record DataRecord : Type 0 where
  pub place : ℕ
  pub bytes : List ℕ

-- a record has a byte for place p
abbrev pub covers : DataRecord → ℕ → Bool
covers x p = nat_le x.place p && nat_lt p (x.place + length x.bytes)

-- one of the records has a byte for place p
abbrev pub covered : List DataRecord → ℕ → Bool
covered [] p = false
covered (x ∷ xs) p = covers x p || covered xs p

-- the byte of the list's first record that covers a place, and FF, as an erase leaves it, where none does
abbrev pub byte_at : List DataRecord → ℕ → ℕ
byte_at [] p = erased_byte
byte_at (x ∷ xs) p = if covers x p then get_or x.bytes (p - x.place) erased_byte else byte_at xs p

-- one more than the greatest place that a record gives, and 0 where it gives none
abbrev pub record_end : DataRecord → ℕ
record_end x = if length x.bytes == 0 then 0 else x.place + length x.bytes

-- one more than the greatest place that any of the records gives, and 0 where none gives one
abbrev pub extent : List DataRecord → ℕ
extent [] = 0
extent (x ∷ xs) = max (extent xs) (record_end x)

-- the bytes from place 0 to the greatest place given
abbrev pub records_image : List DataRecord → List ℕ
records_image xs = map (byte_at xs) (range_with_len 0 (extent xs))

-- no two records cover one place
abbrev pub HaveNoOverlap : List DataRecord → Type 0
HaveNoOverlap [] = Unit {0}
HaveNoOverlap (x ∷ xs) = ((p : ℕ) → covers x p ≡ true → covered xs p ≡ false) × HaveNoOverlap xs

-- the least of n places from place p on that a record covers
abbrev pub overlap : List DataRecord → ℕ → ℕ → Option ℕ
overlap xs p zero = None
overlap xs p (suc n) = if covered xs p then Some p else overlap xs (p + 1) n

-- the records, or `Overlap` with the place that is covered already, if one is
abbrev pub unless_covered : Option ℕ → List DataRecord → Result (List DataRecord) McsFault
unless_covered (Some p) xs = Err (fault.Overlap p)
unless_covered None xs = Ok xs

-- the records with that of line n before them, or its fault: `TooLarge` where it has a byte at `flash_limit` or after
-- it, and else `Overlap` with the least of its places that one of them covers
abbrev pub with_record : ℕ → List DataRecord → DataRecord → Result (List DataRecord) McsFault
with_record n xs x =
    if nat_lt flash_limit (record_end x) then Err (fault.TooLarge n)
    else unless_covered (overlap xs x.place (length x.bytes)) (x ∷ xs)

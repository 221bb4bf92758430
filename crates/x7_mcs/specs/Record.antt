-- What a record says: count, address, type, data and sum byte (Intel HEX).
use Rattle.std.specs.Prelude.{◌≡◌, ℕ, ◌+◌, ◌*◌, ◌-◌, ◌%◌, ◌==◌, ◌&&◌, ◌||◌, nat_le, not, Bool, if◌then◌else◌, List, length, take, drop, get_or, Result, Ok, Err}
use Rattle.std.specs.List.{sum}
pub use Rattle.x7_words.specs.Characters.{number_of_digit}
pub use Rattle.x7_text.specs.EitherCase.{byte_of, byte_before, bytes_of_pairs}
use Rattle.x7_mcs.specs.declared.fault.McsFault.{McsFault}
use Rattle.x7_mcs.specs.declared.fault.McsFault.TheVariants as fault
use Rattle.x7_mcs.specs.declared.record.Meaning.{Meaning}
use Rattle.x7_mcs.specs.declared.record.Meaning.TheVariants as meaning

-- how many bytes the 16 address bits of a record reach from the base on: those of a block
abbrev pub block_size : ℕ
block_size = 65536

-- how many values a byte has
abbrev pub byte_values : ℕ
byte_values = 256

-- how many bytes a record has beside its data: its count, the two of its address, its type and its sum byte
abbrev pub bytes_beside_data : ℕ
bytes_beside_data = 5

-- ---- the types of records

-- the type of a record of data
abbrev pub data_type : ℕ
data_type = 0

-- the type of the record that ends a file
abbrev pub end_type : ℕ
end_type = 1

-- the type of a record that gives the base of the addresses that follow, in units of 16 bytes (an extended segment
-- address)
abbrev pub segment_base_type : ℕ
segment_base_type = 2

-- the type of a record that says where a program starts, as a segment and an offset
abbrev pub segment_start_type : ℕ
segment_start_type = 3

-- the type of a record that gives the base of the addresses that follow, in units of 65,536 bytes (an extended linear
-- address)
abbrev pub linear_base_type : ℕ
linear_base_type = 4

-- the type of a record that says where a program starts, as one address
abbrev pub linear_start_type : ℕ
linear_start_type = 5

-- ---- the parts of a record

-- a record's type, by which its data mean what they do
abbrev pub record_type : List ℕ → ℕ
record_type bs = get_or bs 3 0

-- how many bytes of data a record says that it has
abbrev pub record_count : List ℕ → ℕ
record_count bs = get_or bs 0 0

-- a record has as many bytes as its count says, and those beside its data
abbrev pub IsOfItsCount : List ℕ → Type 0
IsOfItsCount bs = record_count bs + bytes_beside_data ≡ length bs

-- a record's address: 16 bits, the high byte first
abbrev pub record_address : List ℕ → ℕ
record_address bs = 256 * get_or bs 1 0 + get_or bs 2 0

-- the number in the two data bytes of a record that gives a base, the high byte first
abbrev pub base_value : List ℕ → ℕ
base_value bs = 256 * get_or bs 4 0 + get_or bs 5 0

-- a record's data, as many bytes as its count says
abbrev pub record_data : List ℕ → List ℕ
record_data bs = take (record_count bs) (drop 4 bs)

-- the sum byte that a record has: its last byte
abbrev pub sum_found : List ℕ → ℕ
sum_found bs = get_or bs (length bs - 1) 0

-- the byte that makes the sum of these and itself 0 modulo 256
abbrev pub sum_byte : List ℕ → ℕ
sum_byte bs = (byte_values - sum bs % byte_values) % byte_values

-- the sum byte that the record wants
abbrev pub sum_wanted : List ℕ → ℕ
sum_wanted bs = sum_byte (take (length bs - 1) bs)

-- ---- what a record says

-- what the bytes of line n say by type, count and address, or `Line` where these are no record's. Data end within the
-- 65,536 addresses of a block (this project's choice), and a start has no effect
abbrev pub meaning_by_type : ℕ → List ℕ → Result Meaning McsFault
meaning_by_type n bs =
    if record_type bs == data_type && nat_le (record_address bs + record_count bs) block_size then Ok (meaning.Data (record_address bs))
    else if record_type bs == end_type && record_count bs == 0 then Ok meaning.End
    else if record_type bs == segment_base_type && record_count bs == 2 then Ok (meaning.Base (16 * base_value bs))
    else if record_type bs == linear_base_type && record_count bs == 2 then Ok (meaning.Base (block_size * base_value bs))
    else if (record_type bs == segment_start_type || record_type bs == linear_start_type) && record_count bs == 4 then Ok meaning.Start
    else Err (fault.Line n)

-- what the bytes of line n say, where a record 01 stood before or not; or the first fault of these: the count, the sum
-- byte, a record 01 before the line, the type with the count and the address
abbrev pub meaning_of : ℕ → Bool → List ℕ → Result Meaning McsFault
meaning_of n has_ended bs =
    if not (record_count bs + bytes_beside_data == length bs) then Err (fault.Line n)
    else if not (sum_wanted bs == sum_found bs) then Err (fault.Sum n (sum_wanted bs) (sum_found bs))
    else if has_ended then Err (fault.Line n)
    else meaning_by_type n bs

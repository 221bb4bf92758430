-- The text of a flash's bytes (Intel HEX; rows of 16 bytes are this project's choice).
use Rattle.std.specs.Prelude.{ℕ, ◌+◌, ◌*◌, ◌/◌, ◌%◌, ◌==◌, if◌then◌else◌, List, [], ◌∷◌, ◌++◌, length, codes}
use Rattle.std.specs.List.{flat_map}
use Rattle.x7_text.specs.Digits.{hex_byte}
use Rattle.x7_text.specs.Row.{rows}
use Rattle.x7_words.specs.Characters.{colon_byte, line_end_byte}
use Rattle.x7_mcs.specs.Record.{block_size, byte_values, data_type, linear_base_type, sum_byte}

-- how many bytes of a flash a row has; the last row may have fewer
abbrev pub row_size : ℕ
row_size = 16

-- how many bytes of text a record 04 has, with its line end
abbrev pub base_line_size : ℕ
base_line_size = 16

-- how many bytes of text the data record of a whole row has, with its line end
abbrev pub row_line_size : ℕ
row_line_size = 44

-- where the digits of a row's count begin in its line, in bytes from 0, after `:`; those of its address and of its type
-- follow
abbrev pub fields_place : ℕ
fields_place = 1

-- Room for the lines of rows that have n bytes: four bytes of text for each, which is more than whole rows and the
-- records 04 of whole blocks take. A record 04 and a row's line more are for the block and the row that are begun.
abbrev pub rows_room : ℕ → ℕ
rows_room n = 4 * n + (base_line_size + row_line_size)

-- room for the lines of a block
abbrev pub block_room : ℕ
block_room = rows_room block_size

-- the line of a record's bytes: `:`, their digits and those of the byte that makes their sum 0 modulo 256, and the line
-- end
abbrev pub record_line : List ℕ → List ℕ
record_line bs = colon_byte ∷ (flat_map hex_byte (bs ++ sum_byte bs ∷ []) ++ line_end_byte ∷ [])

-- how many bytes of data a record 04 has: those of its base
abbrev pub base_data_size : ℕ
base_data_size = 2

-- the high and the low byte of a record's address, where it gives none
abbrev pub no_address : ℕ
no_address = 0

-- the record 04 of the block of this number, from 0, of 65,536 bytes
abbrev pub base_line : ℕ → List ℕ
base_line block = record_line (base_data_size ∷ no_address ∷ no_address ∷ linear_base_type ∷ block / byte_values ∷ block % byte_values ∷ [])

-- the data record of bytes at an address
abbrev pub data_line : ℕ → List ℕ → List ℕ
data_line address bs = record_line (length bs ∷ address / byte_values ∷ address % byte_values ∷ data_type ∷ bs)

-- the fields of the data record of a whole row at an address: its count, the address, the high byte first, and its type
abbrev pub row_fields : ℕ → List ℕ
row_fields address = row_size ∷ address / byte_values ∷ address % byte_values ∷ data_type ∷ []

-- where a block of 65,536 bytes begins, its record 04; at any other place nothing
abbrev pub block_start : ℕ → List ℕ
block_start place = if place % block_size == 0 then base_line (place / block_size) else []

-- the lines of rows from a place on: a record 04 before a row that begins a block, and a data record for each row
abbrev pub row_lines : ℕ → List (List ℕ) → List ℕ
row_lines place [] = []
row_lines place (r ∷ rs) = block_start place ++ data_line (place % block_size) r ++ row_lines (place + length r) rs

-- the text of a flash's bytes: the lines of its rows, the last of which may be shorter, with a record 04 where a block
-- begins, and the record 01
abbrev pub mcs_text : List ℕ → List ℕ
mcs_text bytes = row_lines 0 (rows row_size bytes) ++ codes ":00000001FF\n"

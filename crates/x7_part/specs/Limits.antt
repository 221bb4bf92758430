-- The most and the least that a part may have (this project's choice, where no other source is named).
use Rattle.std.specs.Prelude.{◌≡◌, ◌⊎◌, ℕ}

-- the greatest IDCODE of a part: the last number of 32 bits
abbrev pub greatest_idcode : ℕ
greatest_idcode = 4294967295

-- the greatest number of the mode pins, which STAT shows in three bits (UG470, status register)
abbrev pub greatest_mode : ℕ
greatest_mode = 7

-- the greatest code of the bus width, which STAT shows in two bits (UG470, status register)
abbrev pub greatest_bus_width : ℕ
greatest_bus_width = 3

-- the greatest block type of a row: 0 is logic, 1 the contents of block RAM, 2 CFG_CLB (UG470, frame address register)
abbrev pub greatest_block : ℕ
greatest_block = 2

-- the greatest half of a row: 0 is the top one, 1 the bottom one (UG470, frame address register)
abbrev pub greatest_half : ℕ
greatest_half = 1

-- the greatest row of a half: the last number of 5 bits (UG470, frame address register)
abbrev pub greatest_row : ℕ
greatest_row = 31

-- the most bytes of a part's name
abbrev pub most_name_size : ℕ
most_name_size = 64

-- the first byte that may stand in a part's name, an exclamation mark
abbrev pub first_printed : ℕ
first_printed = 0x21

-- the last byte that may stand in a part's name, a tilde
abbrev pub last_printed : ℕ
last_printed = 0x7E

-- the most rows of a part
abbrev pub most_rows : ℕ
most_rows = 192

-- the most columns of a row: as many as 10 bits of an address number (UG470, frame address register)
abbrev pub most_columns : ℕ
most_columns = 1024

-- the most minors of a column: as many as 7 bits of an address number (UG470, frame address register)
abbrev pub most_minors : ℕ
most_minors = 128

-- the least bits of an address's minor (UG470, frame address register; that the fields may be wider is this project's
-- choice)
abbrev pub least_minor_width : ℕ
least_minor_width = 7

-- the most bits of an address's minor
abbrev pub most_minor_width : ℕ
most_minor_width = 12

-- the least bits of an address's column
abbrev pub least_column_width : ℕ
least_column_width = 10

-- the most bits of an address's column
abbrev pub most_column_width : ℕ
most_column_width = 12

-- the least bits of an address's row
abbrev pub least_row_width : ℕ
least_row_width = 5

-- the most bits of an address's row
abbrev pub most_row_width : ℕ
most_row_width = 8

-- the bits of an address's half
abbrev pub half_width : ℕ
half_width = 1

-- the least bits of an address's block type
abbrev pub least_block_width : ℕ
least_block_width = 2

-- the most bits of an address's block type
abbrev pub most_block_width : ℕ
most_block_width = 3

-- the least bits of an address
abbrev pub least_address_width : ℕ
least_address_width = 25

-- the most bits of an address
abbrev pub most_address_width : ℕ
most_address_width = 32

-- the greatest number of eight bits, in which a column's number of minors is stored
abbrev pub greatest_byte : ℕ
greatest_byte = 255

-- the bytes of the flash that one step of WBSTAR's start address stands for where a part file doesn't say
abbrev pub usual_start_unit : ℕ
usual_start_unit = 1

-- the bytes of the flash that one step of WBSTAR's start address stands for where the flash's addresses have 32 bits
-- (UG470, warm boot start address)
abbrev pub large_start_unit : ℕ
large_start_unit = 256

-- the most ticks that startup waits for the clocks to lock or for the impedance to match: the last number of 16 bits
abbrev pub most_wait_ticks : ℕ
most_wait_ticks = 65535

-- the most frames of a part
abbrev pub most_frames : ℕ
most_frames = 131072

-- the least words of a frame
abbrev pub least_frame_words : ℕ
least_frame_words = 2

-- the most words of a frame
abbrev pub most_frame_words : ℕ
most_frame_words = 255

-- the words of a frame where a part file doesn't say (UG470, frame data)
abbrev pub usual_frame_words : ℕ
usual_frame_words = 101

-- the most words of a part's frames and pads: 101 for each of 131,072 frames, and for the two pads after each of 192
-- rows
abbrev pub most_words : ℕ
most_words = 13277056

-- the bytes of the flash that one step of WBSTAR's start address may stand for
abbrev pub IsStartUnit : ℕ → Type 0
IsStartUnit bytes = (bytes ≡ usual_start_unit) ⊎ (bytes ≡ large_start_unit)

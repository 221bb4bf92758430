-- A part: what a part file says of a device (this project's choice).
use Rattle.std.specs.Prelude.{ℕ, List}

-- a row of one block type: block type, half (0 top, 1 bottom), row, and the number of minors of each column from 0 on
pub record RowData : Type 0 where
  pub block : ℕ
  pub half : ℕ
  pub row : ℕ
  pub minors : List ℕ

-- the widths in bits of the fields of a frame address, each field right above the one before it, from bit 0 (UG470,
-- frame address register; that they are the part's is this project's choice)
pub record FieldWidths : Type 0 where
  pub minor : ℕ
  pub column : ℕ
  pub row : ℕ
  pub half : ℕ
  pub block : ℕ

-- the widths of the fields of an address in the 7 series (UG470, frame address register)
abbrev pub usual_widths : FieldWidths
usual_widths = record { minor = 7; column = 10; row = 5; half = 1; block = 3 }

-- all that a part file says; the rows of a part stand in number order (`IsPart`), those of a file in any
pub record PartData : Type 0 where
  pub name : List ℕ
  pub idcode : ℕ
  -- the mode pins and the code of the bus width, as STAT shows them
  pub mode : ℕ
  pub bus_width : ℕ
  -- the ticks, of four bytes each, that startup waits for the clocks to lock, and for the impedance to match
  pub lock : ℕ
  pub matched : ℕ
  -- how many words a frame has
  pub frame_words : ℕ
  -- the widths in bits of the fields of a frame address
  pub field_widths : FieldWidths
  -- the bytes of a flash that one step of WBSTAR's start address stands for
  pub start_unit : ℕ
  pub rows : List RowData

-- how many words a frame has (UG470, frame data)
abbrev pub frame_words : PartData → ℕ
frame_words part = part.frame_words

-- Frame addresses (UG470, frame address register): minor, column, row, half (0 top, 1 bottom) and block type, from bit
-- 0 up, each with the part's width.
use Rattle.std.specs.Prelude.{◌≡◌, ℕ, ◌+◌, ◌*◌, ◌^◌, ◌<◌, ◌≤◌, List, [], ◌∷◌, length, slice_index, Contains, All}
use Rattle.x7_part.specs.Limits.{greatest_block, greatest_half, greatest_row, half_width, least_block_width, least_column_width, least_minor_width, least_row_width, most_address_width, most_block_width, most_column_width, most_columns, most_minor_width, most_minors, most_row_width}
use Rattle.x7_part.specs.Part.{FieldWidths, RowData, PartData}

-- the lowest bit of the column
abbrev pub column_low : FieldWidths → ℕ
column_low widths = widths.minor

-- the lowest bit of the row
abbrev pub row_low : FieldWidths → ℕ
row_low widths = widths.minor + widths.column

-- the lowest bit of the half
abbrev pub half_low : FieldWidths → ℕ
half_low widths = widths.minor + widths.column + widths.row

-- the lowest bit of the block type
abbrev pub block_low : FieldWidths → ℕ
block_low widths = widths.minor + widths.column + widths.row + widths.half

-- how many bits an address has
abbrev pub address_width : FieldWidths → ℕ
address_width widths = widths.minor + widths.column + widths.row + widths.half + widths.block

-- how many bits a part's addresses have
abbrev pub far_width : PartData → ℕ
far_width part = address_width part.field_widths

-- widths that the fields of an address may have, 32 bits together at most
pub record AreWidths (widths : FieldWidths) : Type 0 where
  pub minor : (least_minor_width ≤ widths.minor) × (widths.minor ≤ most_minor_width)
  pub column : (least_column_width ≤ widths.column) × (widths.column ≤ most_column_width)
  pub row : (least_row_width ≤ widths.row) × (widths.row ≤ most_row_width)
  pub half : widths.half ≡ half_width
  pub block : (least_block_width ≤ widths.block) × (widths.block ≤ most_block_width)
  pub sum : address_width widths ≤ most_address_width

-- the address of a row's column 0, minor 0
abbrev pub row_address : FieldWidths → RowData → ℕ
row_address widths r = r.block * 2 ^ block_low widths + r.half * 2 ^ half_low widths + r.row * 2 ^ row_low widths

-- the address of a frame by its row, column and minor
abbrev pub frame_address : FieldWidths → RowData → ℕ → ℕ → ℕ
frame_address widths r column minor = row_address widths r + column * 2 ^ column_low widths + minor

-- an address is that of a frame of one of the part's rows: the column has a place in the row, and the minor is below
-- the column's number of minors
abbrev pub IsAddressOf : PartData → ℕ → Type 0
IsAddressOf part address =
    (r : RowData) × (column : ℕ) × (minor : ℕ) × Contains part.rows r × (column < length r.minors)
    × (minor < slice_index r.minors column) × (address ≡ frame_address part.field_widths r column minor)

-- a row whose numbers are in range
pub record IsRow (r : RowData) : Type 0 where
  pub block : r.block ≤ greatest_block
  pub half : r.half ≤ greatest_half
  pub row : r.row ≤ greatest_row
  pub some : 1 ≤ length r.minors
  pub columns : length r.minors ≤ most_columns
  pub minors : All (λ n. (1 ≤ n) × (n ≤ most_minors)) r.minors

-- rows in range, in number order and no two of them the same; the first has its address at `least` or above
pub data AreRows : FieldWidths → ℕ → List RowData → Type 0 where
  no_row : (widths : FieldWidths) (least : ℕ) → AreRows widths least []
  row : (widths : FieldWidths) (least : ℕ) (r : RowData) (rows : List RowData) → least ≤ row_address widths r → IsRow r →
      AreRows widths (row_address widths r + 2 ^ row_low widths) rows → AreRows widths least (r ∷ rows)

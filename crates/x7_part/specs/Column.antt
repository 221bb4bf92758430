-- The table of columns that addresses and slots are looked up in (this project's choice).
use Rattle.std.specs.Prelude.{◌≡◌, ℕ, ◌+◌, ◌*◌, ◌^◌, ◌<◌, ◌≤◌, List, [], ◌∷◌, ◌++◌, length, map, replicate}
use Rattle.std.specs.List.{flat_map}
use Rattle.x7_part.specs.Part.{FieldWidths, RowData, PartData}
use Rattle.x7_part.specs.Address.{row_address, column_low}
use Rattle.x7_part.specs.AddressOrder.{count_from, addresses_of, addresses_in}
use Rattle.x7_part.specs.Ranges.{IsPart}
use Rattle.x7_part.specs.Slot.{pads_after_row, slots_in}
use Rattle.x7_part.specs.declared.column.Column.{Column}
use Rattle.x7_part.specs.declared.slot.Slot.{Slot}
use Rattle.x7_part.specs.declared.slot.Slot.TheVariants.{Frame, Pad}

-- the addresses of one column
abbrev pub addresses_of_column : Column → List ℕ
addresses_of_column c = count_from c.first c.count

-- the slots of one column: its frames, and the pads after them
abbrev pub slots_of : Column → List Slot
slots_of c = map Frame (addresses_of_column c) ++ replicate c.pad_count Pad

-- an address is one of a column's
abbrev pub IsInColumn : Column → ℕ → Type 0
IsInColumn c address = (c.first ≤ address) × (address < c.first + c.count)

-- the slot of this number, from 0, is a frame of the column
abbrev pub HasFrameAt : Column → ℕ → Type 0
HasFrameAt c slot_number = (c.place ≤ slot_number) × (slot_number < c.place + c.count)

-- the addresses of all columns
unfoldable pub column_addresses : List Column → List ℕ
column_addresses columns = flat_map addresses_of_column columns

-- the slots of all columns
unfoldable pub column_slots : List Column → List Slot
column_slots columns = flat_map slots_of columns

-- the columns stand in order after `rank` addresses and `place` slots, each with the numbers of addresses and of slots
-- before it, and with one address at least, all below 2^32; the first one begins at `least` or above
pub data IsTable : ℕ → ℕ → ℕ → List Column → Type 0 where
  no_column : (rank place least : ℕ) → IsTable rank place least []
  column : (rank place least : ℕ) (c : Column) (columns : List Column) → c.rank ≡ rank → c.place ≡ place → least ≤ c.first →
      0 < c.count → c.first + c.count ≤ 2 ^ 32 →
      IsTable (rank + c.count) (place + c.count + c.pad_count) (c.first + c.count) columns → IsTable rank place least (c ∷ columns)

-- columns that can be searched: they stand in order, their addresses are counted in 32 bits and their slots in 63
pub record AreColumns (columns : List Column) : Type 0 where
  pub table : IsTable 0 0 0 columns
  pub addresses : length (column_addresses columns) < 2 ^ 32
  pub slots : length (column_slots columns) < 2 ^ 63

-- the columns of a part, whose numbers are in range: their addresses and slots are the part's
pub record AreColumnsOf (part : PartData) (columns : List Column) : Type 0 where
  pub is_part : IsPart part
  pub are_columns : AreColumns columns
  pub addresses : column_addresses columns ≡ addresses_in part
  pub slots : column_slots columns ≡ slots_in part

module _ (pitch base : ℕ) where
  -- the columns of the row at `base`, from column i, from 0, on, after `rank` addresses and `place` slots; the next
  -- column begins `pitch` further, and the row's pads stand after its last column
  abbrev pub row_columns : ℕ → ℕ → ℕ → List ℕ → List Column
  row_columns i rank place [] = []
  row_columns i rank place (n ∷ []) = record { first = base + i * pitch; count = n; pad_count = pads_after_row; rank = rank; place = place } ∷ []
  row_columns i rank place (n ∷ m ∷ minors) =
      record { first = base + i * pitch; count = n; pad_count = 0; rank = rank; place = place } ∷ row_columns (i + 1) (rank + n) (place + n) (m ∷ minors)

-- the columns of the rows, after `rank` addresses and `place` slots
abbrev pub table_of : FieldWidths → ℕ → ℕ → List RowData → List Column
table_of widths rank place [] = []
table_of widths rank place (r ∷ rows) =
    row_columns (2 ^ column_low widths) (row_address widths r) 0 rank place r.minors
    ++ table_of widths (rank + length (addresses_of widths r)) (place + length (addresses_of widths r) + pads_after_row) rows

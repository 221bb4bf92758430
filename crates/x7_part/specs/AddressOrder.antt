-- The frame addresses of a part in number order (UG470, frame address register).
use Rattle.std.specs.Prelude.{◌≡◌, ℕ, zero, suc, ◌+◌, ◌*◌, ◌^◌, ◌<◌, ◌≤◌, List, [], ◌∷◌, ◌++◌, length, slice_index}
use Rattle.std.specs.List.{flat_map}
use Rattle.x7_part.specs.Part.{FieldWidths, RowData, PartData}
use Rattle.x7_part.specs.Address.{row_address, column_low}

-- `n` numbers from `first` on, each one more than the one before it
abbrev pub count_from : ℕ → ℕ → List ℕ
count_from first zero = []
count_from first (suc n) = first ∷ count_from (first + 1) n

-- the addresses of the row at `base`, from the column of this number, from 0, on; the list has the numbers of minors of
-- that column and of those after it, and one column more adds `pitch`
abbrev pub row_addresses : ℕ → ℕ → ℕ → List ℕ → List ℕ
row_addresses pitch base column [] = []
row_addresses pitch base column (n ∷ minors) = count_from (base + column * pitch) n ++ row_addresses pitch base (column + 1) minors

-- the addresses of a row
abbrev pub addresses_of : FieldWidths → RowData → List ℕ
addresses_of widths r = row_addresses (2 ^ column_low widths) (row_address widths r) 0 r.minors

-- the addresses of rows, one row after the other
unfoldable pub addresses : FieldWidths → List RowData → List ℕ
addresses widths rows = flat_map (addresses_of widths) rows

-- the addresses of a part
abbrev pub addresses_in : PartData → List ℕ
addresses_in part = addresses part.field_widths part.rows

-- each number is above those before it, and the first is at least `least`
pub data Rises : ℕ → List ℕ → Type 0 where
  risen : (least : ℕ) → Rises least []
  rise : (least x : ℕ) (xs : List ℕ) → least ≤ x → Rises (x + 1) xs → Rises least (x ∷ xs)

-- an address has this rank in a list: its number there, from 0; in a list that rises as many are smaller
abbrev pub HasRank : List ℕ → ℕ → ℕ → Type 0
HasRank addresses far rank = (rank < length addresses) × (slice_index addresses rank ≡ far)

-- y stands right after x in a list
abbrev pub IsFollowedBy : List ℕ → ℕ → ℕ → Type 0
IsFollowedBy xs x y = (k : ℕ) × (k + 1 < length xs) × (slice_index xs k ≡ x) × (slice_index xs (k + 1) ≡ y)

-- x is the last number of a list
abbrev pub IsLastIn : List ℕ → ℕ → Type 0
IsLastIn xs x = (k : ℕ) × (k + 1 ≡ length xs) × (slice_index xs k ≡ x)

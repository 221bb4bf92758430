-- The rows of a part file together: none the same as another, not too many frames or words, and their order in the part
-- (this project's choice).
use Rattle.std.specs.Prelude.{◌≡◌, ◌⊎◌, ◌<◌, ℕ, ◌+◌, ◌*◌, List, [], ◌∷◌, ◌++◌, length, Bool, false, not, ◌&&◌, ◌||◌, ◌==◌, nat_le, nat_lt, if◌then◌else◌, Option, None}
use Rattle.x7_part.specs.declared.fault.PartFault.{PartFault}
use Rattle.x7_part.specs.declared.fault.PartFault.TheVariants.{SameRow, TooMany}
use Rattle.x7_part.specs.Limits.{most_frames, most_words}
use Rattle.x7_part.specs.Part.{FieldWidths, RowData, PartData, frame_words}
use Rattle.x7_part.specs.Address.{row_address}
use Rattle.x7_part.specs.AddressOrder.{addresses_in}
use Rattle.x7_part.specs.Slot.{pads_after_row}
use Rattle.x7_part.specs.PartChecks.{unless, first_of}

-- two rows are of one block type, half and row
abbrev pub is_same_row : RowData → RowData → Bool
is_same_row r s = ((r.block == s.block) && (r.half == s.half)) && (r.row == s.row)

-- a row is the same as one of others
abbrev pub has_same_row : RowData → List RowData → Bool
has_same_row r [] = false
has_same_row r (s ∷ rows) = is_same_row r s || has_same_row r rows

-- the first of the rows that is the same as one of `earlier` or as one before it; rows count from 1, with the earlier
-- ones
abbrev pub same_row_fault : List RowData → List RowData → Option PartFault
same_row_fault earlier [] = None
same_row_fault earlier (r ∷ rows) =
    first_of (unless (not (has_same_row r earlier)) (SameRow (length earlier + 1)) ∷ same_row_fault (earlier ++ r ∷ []) rows ∷ [])

-- `count` frames of `width` words in `row_count` rows are no more than a part may have, and neither are their words and
-- those of the two pads after each row
abbrev pub has_few_frames : ℕ → ℕ → ℕ → Bool
has_few_frames width count row_count = nat_le count most_frames && nat_le (width * (count + pads_after_row * row_count)) most_words

-- too many frames, or words of frames and pads; the fault has the number of frames
abbrev pub frames_fault : PartData → Option PartFault
frames_fault part =
    unless (has_few_frames (frame_words part) (length (addresses_in part)) (length part.rows)) (TooMany (length (addresses_in part)))

-- ---- the order of rows

-- a row put among rows that rise by address, right after those with smaller addresses
abbrev pub put_in : FieldWidths → RowData → List RowData → List RowData
put_in widths r [] = r ∷ []
put_in widths r (s ∷ rows) = if nat_lt (row_address widths s) (row_address widths r) then s ∷ put_in widths r rows else r ∷ s ∷ rows

-- rows in rising order of their addresses
unfoldable pub sorted_rows : FieldWidths → List RowData → List RowData
sorted_rows widths [] = []
sorted_rows widths (r ∷ rows) = put_in widths r (sorted_rows widths rows)

-- one row stands before another in a part: by the block type, then by the half, then by the row
abbrev pub IsBefore : RowData → RowData → Type 0
IsBefore r s = (r.block < s.block) ⊎ ((r.block ≡ s.block) × ((r.half < s.half) ⊎ ((r.half ≡ s.half) × (r.row < s.row))))

-- each row stands before every later one
abbrev pub RowsRise : List RowData → Type 0
RowsRise rows = (before between after : List RowData) (r s : RowData) → rows ≡ before ++ r ∷ (between ++ s ∷ after) → IsBefore r s

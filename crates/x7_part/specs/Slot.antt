-- Slots: the places of frames and of pad frames in write order (UG470, frame data; two pads after each row's last frame
-- are this project's choice).
use Rattle.std.specs.Prelude.{◌≡◌, ℕ, ◌<◌, Contains, List, [], ◌∷◌, ◌++◌, length, map, slice_index, slice_index_or, ◌==◌, if◌then◌else◌}
use Rattle.std.specs.List.{flat_map}
use Rattle.x7_part.specs.Part.{FieldWidths, RowData, PartData}
use Rattle.x7_part.specs.AddressOrder.{addresses_of}
use Rattle.x7_part.specs.declared.slot.Slot.{Slot}
use Rattle.x7_part.specs.declared.slot.Slot.TheVariants.{Frame, Pad, End}

-- how many pads stand after the last frame of a row
abbrev pub pads_after_row : ℕ
pads_after_row = 2

-- the slots of rows: of each row the frames at its addresses, and two pads (`pads_after_row`) after the last
unfoldable pub slots : FieldWidths → List RowData → List Slot
slots widths rows = flat_map (λ r. map Frame (addresses_of widths r) ++ Pad ∷ Pad ∷ []) rows

-- the slots of a row, its frames and two pads, with the later slots after them
abbrev pub row_slots : FieldWidths → RowData → List Slot → List Slot
row_slots widths r later = map Frame (addresses_of widths r) ++ (Pad ∷ Pad ∷ later)

-- the slots of these rows of a part
abbrev pub slots_of_rows : PartData → List RowData → List Slot
slots_of_rows part rows = slots part.field_widths rows

-- the slots of a part
abbrev pub slots_in : PartData → List Slot
slots_in part = slots part.field_widths part.rows

-- the end of a list of slots that begins with the frame at an address, empty where there is none
abbrev pub from_address : ℕ → List Slot → List Slot
from_address address [] = []
from_address address (Frame a ∷ later) = if a == address then Frame a ∷ later else from_address address later
from_address address (Pad ∷ later) = from_address address later
from_address address (End ∷ later) = from_address address later

-- the slots from an address of a part on, none where it is no address
abbrev pub slots_from : PartData → ℕ → List Slot
slots_from part far = from_address far (slots_in part)

-- slot n, from 0, of the slots from an address on, `End` where there are no more than n
abbrev pub slot_after : PartData → ℕ → ℕ → Slot
slot_after part far n = slice_index_or (slots_from part far) n End

-- the slot at this place is the frame at the address of this rank, both from 0
abbrev pub HasFrameOf : List ℕ → List Slot → ℕ → ℕ → Type 0
HasFrameOf addresses slots place rank = (rank < length addresses) × (slice_index_or slots place End ≡ Frame (slice_index addresses rank))

-- the addresses of the slots that are frames
abbrev pub addresses_among : List Slot → List ℕ
addresses_among [] = []
addresses_among (Frame address ∷ later) = address ∷ addresses_among later
addresses_among (Pad ∷ later) = addresses_among later
addresses_among (End ∷ later) = addresses_among later

-- both addresses are of one row of the part
abbrev pub AreInOneRow : PartData → ℕ → ℕ → Type 0
AreInOneRow part a b = (r : RowData) × Contains part.rows r × Contains (addresses_of part.field_widths r) a × Contains (addresses_of part.field_widths r) b

-- The frame address register: what a load leaves in it, and what it reads as while frames are written or read (UG470,
-- frame address register).
use Rattle.std.specs.Prelude.{◌≡◌, ℕ, ◌-◌, ◌/◌, ◌%◌, ◌^◌, max, nat_lt, Bool, true, if◌then◌else◌, List, [], ◌∷◌, length, drop, slice_index, Option, Some, None, unwrap_or}
use Rattle.x7_part.specs.Part.{PartData, frame_words}
use Rattle.x7_part.specs.Address.{far_width}
use Rattle.x7_part.specs.AddressOrder.{addresses_in}
use Rattle.x7_part.specs.Slot.{slots_from}
use Rattle.x7_part.specs.declared.slot.Slot.{Slot}
use Rattle.x7_part.specs.declared.slot.Slot.TheVariants.{Frame, Pad, End}
use Rattle.x7_pipeline.specs.Runs.{frames_of}

-- the part has a frame at the address: there are slots from the address on
abbrev pub is_frame_address : PartData → ℕ → Bool
is_frame_address part far = nat_lt 0 (length (slots_from part far))

-- a run or a readback can begin at the address: the part has a frame there
abbrev pub IsBase : PartData → ℕ → Type 0
IsBase part far = is_frame_address part far ≡ true

-- the base that a FAR load leaves: the lowest bits of the word, as many as an address has
abbrev pub loaded_base : PartData → ℕ → ℕ
loaded_base part word = word % 2 ^ far_width part

-- the first address among slots, none where no slot is a frame's
abbrev pub first_address : List Slot → Option ℕ
first_address [] = None
first_address (Frame far ∷ slots) = Some far
first_address (Pad ∷ slots) = first_address slots
first_address (End ∷ slots) = first_address slots

-- the part's greatest address
abbrev pub last_address : PartData → ℕ
last_address part = slice_index (addresses_in part) (length (addresses_in part) - 1)

-- the first address at or after slot `slot`, from 0, of those from the base on, and the part's last address where there
-- is none; a base that is no address stays as it is
unfoldable pub far_at : PartData → ℕ → ℕ → ℕ
far_at part base slot =
    if is_frame_address part base then unwrap_or (first_address (drop slot (slots_from part base))) (last_address part) else base

-- FAR as read, after a run from the base or `given` words of a readback. After n whole frames of either, a readback's
-- pad frame counted, it stands at slot n - 1, from 0, of those from the base on; before any whole frame at slot 0.
unfoldable pub far_of : PartData → ℕ → List ℕ → ℕ → ℕ
far_of part base run given =
    far_at part base (max (length (frames_of (frame_words part) run)) (given / frame_words part) - 1)

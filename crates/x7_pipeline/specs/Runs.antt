-- Runs: the words of frame data since the last FAR load or command, the newest first, and where their frames land
-- (UG470, frame data input register; that the newest whole frame is held back is the frame buffer of the guide).
use Rattle.std.specs.Prelude.{◌≡◌, ℕ, ◌+◌, ◌==◌, if◌then◌else◌, List, [], ◌∷◌, ◌++◌, length, slice_index_or}
use Rattle.x7_part.specs.Part.{PartData, frame_words}
use Rattle.x7_part.specs.Slot.{slots_from}
use Rattle.x7_part.specs.declared.slot.Slot.{Slot}
use Rattle.x7_part.specs.declared.slot.Slot.TheVariants.{Frame, Pad, End}
use Rattle.x7_memory.specs.FrameMap.{FrameMap, override, HaveSameFrames}
use Rattle.x7_memory.specs.Plan.{PlanRow, planned}

-- ---- frames of a run; `width` is how many words a frame has

-- the words after the last whole frame of a run, the oldest first
unfoldable pub rest_of : ℕ → List ℕ → List ℕ
rest_of width [] = []
rest_of width (w ∷ run) = if length (rest_of width run) + 1 == width then [] else rest_of width run ++ w ∷ []

-- the whole frames of a run, the newest first, each with its words in the order in which they came
unfoldable pub frames_of : ℕ → List ℕ → List (List ℕ)
frames_of width [] = []
frames_of width (w ∷ run) =
    if length (rest_of width run) + 1 == width then (rest_of width run ++ w ∷ []) ∷ frames_of width run else frames_of width run

-- the run after these words, the oldest of which come first, were written to it
abbrev pub onto : List ℕ → List ℕ → List ℕ
onto [] run = run
onto (w ∷ words) run = onto words (w ∷ run)

-- ---- where frames land

-- the pairs with one more in front, where the slot is an address; the same pairs where it is a pad or past the last
-- slot
abbrev pub at_slot : Slot → List ℕ → List PlanRow → List PlanRow
at_slot (Frame far) words pairs = record { far = far; words = words } ∷ pairs
at_slot Pad words pairs = pairs
at_slot End words pairs = pairs

-- the pairs of frames, the newest first, at slots: the oldest frame goes with the first slot
unfoldable pub in_slots : List Slot → List (List ℕ) → List PlanRow
in_slots slots [] = []
in_slots slots (frame ∷ older) = at_slot (slice_index_or slots (length older) End) frame (in_slots slots older)

-- the frames before the newest one, which stands first
abbrev pub older_frames : List (List ℕ) → List (List ℕ)
older_frames [] = []
older_frames (frame ∷ older) = older

-- what a run has put from its base, the address at which it begins, the newest pair of address and frame first: each
-- whole frame but the newest, at its slot, and none at a pad or past the last slot
unfoldable pub written_frames : PartData → ℕ → List ℕ → List PlanRow
written_frames part base run = in_slots (slots_from part base) (older_frames (frames_of (frame_words part) run))

-- ---- what a memory gets

-- frames put over a memory, each pair over those after it
abbrev pub put_over : List PlanRow → FrameMap → FrameMap
put_over pairs memory = override memory (planned pairs)

-- the new memory is the old one with the frames of these pairs put over it
abbrev pub GetsPairs : List PlanRow → FrameMap → FrameMap → Type 0
GetsPairs pairs old new = HaveSameFrames new (put_over pairs old)

-- the run became longer, and the memory got just the pairs by which the written frames grew
pub record Lands (part : PartData) (base : ℕ) (run longer : List ℕ) (old new : FrameMap) : Type 0 where
  pub added : List PlanRow
  pub grows : written_frames part base longer ≡ added ++ written_frames part base run
  pub memory : GetsPairs added old new

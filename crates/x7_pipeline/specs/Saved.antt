-- What is saved of a pipeline and a memory, so that the next word or copy can be taken back (this project's choice).
use Rattle.std.specs.Prelude.{◌≡◌, ℕ, ◌+◌, ◌-◌, ◌==◌, ◌&&◌, Bool, if◌then◌else◌, List, [], ◌∷◌, length, slice_index_or, Contains, Option, Some, None, is_some}
use Rattle.std.specs.List.{AllByRecursion}
use Rattle.x7_part.specs.AddressOrder.{addresses_in}
use Rattle.x7_part.specs.Part.{PartData, frame_words}
use Rattle.x7_part.specs.declared.slot.Slot.{Slot}
use Rattle.x7_part.specs.declared.slot.Slot.TheVariants.{Frame, Pad, End}
use Rattle.x7_memory.specs.FrameMap.{FrameMap}
use Rattle.x7_memory.specs.PartFrames.{AreFramesOf, frame_at}
use Rattle.x7_memory.specs.Plan.{PlanRow}
use Rattle.x7_part.specs.Slot.{slots_from}
use Rattle.x7_pipeline.specs.FarAsRead.{is_frame_address}
use Rattle.x7_pipeline.specs.Copies.{is_mfw}
use Rattle.x7_pipeline.specs.Pipeline.{IsPipelineOf, PipelineData}

-- ---- where the next frame is put

-- the address of a slot, none at a pad and past the last slot
abbrev pub address_at_slot : Slot → Option ℕ
address_at_slot (Frame far) = Some far
address_at_slot Pad = None
address_at_slot End = None

-- the slot of the newest whole frame, a pad where there is none
abbrev pub newest_slot : PartData → PipelineData → Slot
newest_slot part p = if p.frame_count == 0 then Pad else slice_index_or (slots_from part p.base) (p.frame_count - 1) End

-- the address where the next word would put a frame, none where it would put none: a word that completes a frame puts
-- the whole frame before that one, at its slot
abbrev pub put_by_word : PartData → PipelineData → Option ℕ
put_by_word part p = if length p.rest + 1 == p.width then address_at_slot (newest_slot part p) else None

-- the address where a copy would put a frame: the base, and none where that is no address
abbrev pub put_by_copy : PartData → PipelineData → Option ℕ
put_by_copy part p = if is_frame_address part p.base then Some p.base else None

-- a pipeline takes copies: the command is MFW, and there is a source
abbrev pub may_copy : PipelineData → Bool
may_copy p = is_mfw p.command && is_some p.source

-- the address where the next word, or under MFW with a source the next copy, would put a frame, none where it would put
-- none
abbrev pub next_put : PartData → PipelineData → Option ℕ
next_put part p = if may_copy p then put_by_copy part p else put_by_word part p

-- ---- what is saved

-- the frame of an address, as at most one pair
abbrev pub pair_of_frame : ℕ → Option (List ℕ) → List PlanRow
pair_of_frame far None = []
pair_of_frame far (Some words) = record { far = far; words = words } ∷ []

-- the frame that a memory has at an address, as at most one pair, and none without an address
abbrev pub pair_at : FrameMap → Option ℕ → List PlanRow
pair_at memory None = []
pair_at memory (Some far) = pair_of_frame far (memory far)

-- a pipeline, and at most one pair of an address and the frame that stood there
pub record SavedState : Type 0 where
  pub pipeline : PipelineData
  pub pair : List PlanRow

-- the pair that a saved state's fields hold: this address and these words where `has_frame`, else none
abbrev pub pair_seen : Bool → ℕ → List ℕ → List PlanRow
pair_seen has_frame far words = if has_frame then record { far = far; words = words } ∷ [] else []

-- a frame of the part at one of its addresses
pub record IsPairOf (part : PartData) (row : PlanRow) : Type 0 where
  pub address : Contains (addresses_in part) row.far
  pub width : length row.words ≡ frame_words part

-- the saved pipeline is one of the part, and the saved pair, where there is one, a frame of the part at one of its
-- addresses
pub record IsSavedOf (part : PartData) (s : SavedState) : Type 0 where
  pub pipeline_fits : IsPipelineOf part s.pipeline
  pub pair_fits : AllByRecursion (IsPairOf part) s.pair

-- ---- taking back

-- the new map has the frames of the old one at each address but `at`, where there is one
abbrev pub ChangesAt : Option ℕ → FrameMap → FrameMap → Type 0
ChangesAt at old new = (far : ℕ) → (at ≡ Some far → ⊥) → new far ≡ old far

-- the frames of a part before and after a change at `at` alone
pub record HaveChangedAt (part : PartData) (at : Option ℕ) (old new : List (List ℕ)) : Type 0 where
  pub old_are : AreFramesOf part old
  pub new_are : AreFramesOf part new
  pub changes : ChangesAt at (frame_at part old) (frame_at part new)

-- the map changes at most where the next word or copy would put a frame
abbrev pub ChangesNext : PartData → PipelineData → FrameMap → FrameMap → Type 0
ChangesNext part p old new = ChangesAt (next_put part p) old new

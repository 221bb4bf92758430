-- What the groups and runs of a plan put, and how they land.
use Rattle.std.specs.Prelude.{◌≡◌, List, [], ◌∷◌, ◌++◌, reverse, slice_index, Some}
use Rattle.x7_part.specs.Part.{PartData, frame_words}
use Rattle.x7_part.specs.Slot.{slots_from}
use Rattle.x7_part.specs.declared.slot.Slot.{Slot}
use Rattle.x7_memory.specs.FrameMap.{FrameMap}
use Rattle.x7_memory.specs.Plan.{PlanRow, planned_addresses}
use Rattle.x7_pipeline.specs.Runs.{put_over, written_frames, onto, frames_of}
use Rattle.x7_pipeline.specs.Copies.{newest_of}
use Rattle.x7_effects.proofs.Frames.{joined, row_frames, row_slots}
use Rattle.x7_planner.specs.FullStream.{zero_frame}
use Rattle.x7_effects.proofs.Checking.{Piece}
use Rattle.x7_planner.specs.PartialStream.{Section, Copies, Rows, pairs_of, sections_of}
use Rattle.x7_effects.proofs.Streams.{partial_pieces}

-- a memory after sections in order, each with its newest pair first
abbrev pub put_sections : FrameMap → List Section → FrameMap
put_sections memory [] = memory
put_sections memory (s ∷ sections) = put_sections (put_over (reverse (pairs_of s)) memory) sections

-- the rows of a run stand at slots that follow one another
abbrev pub IsPlaced : PartData → List PlanRow → Type 0
IsPlaced part [] = ⊥
IsPlaced part (r ∷ run) = (more : List Slot) × (slots_from part r.far ≡ row_slots (r ∷ run) ++ more)

-- the pieces of the partial stream of a plan
abbrev pub plan_pieces : PartData → List PlanRow → List Piece
plan_pieces part rows = partial_pieces part (sections_of part rows)

-- how a section lands: a run as its rows at its first address; a content not at all, but it is the source of the copies
abbrev pub LandsAs : PartData → Section → Type 0
LandsAs part (Copies words fars) = (written_frames part (slice_index fars 0) (onto words []) ≡ []) × (newest_of (frames_of (frame_words part) (onto words [])) ≡ Some words)
LandsAs part (Rows rows) = written_frames part (slice_index (planned_addresses rows) 0) (onto (joined (row_frames rows ++ zero_frame part ∷ [])) []) ≡ reverse rows

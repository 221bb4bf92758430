-- The memory of a history, the definition: zero frames, over which each access puts its frames (UG470, frame data input
-- and multi-frame write registers). Stretches restates it, by a law.
use Rattle.std.specs.Prelude.{ℕ, ◌&&◌, if◌then◌else◌, List, [], ◌∷◌, length, slice_index_or}
use Rattle.x7_packets.specs.History.{History}
use Rattle.x7_part.specs.Part.{PartData, frame_words}
use Rattle.x7_part.specs.Slot.{slots_from}
use Rattle.x7_part.specs.declared.slot.Slot.TheVariants.{End}
use Rattle.x7_memory.specs.FrameMap.{FrameMap}
use Rattle.x7_memory.specs.PartFrames.{zeros}
use Rattle.x7_memory.specs.Plan.{PlanRow}
use Rattle.x7_pipeline.specs.Runs.{at_slot, frames_of, put_over}
use Rattle.x7_pipeline.specs.FarAsRead.{is_frame_address}
use Rattle.x7_pipeline.specs.Copies.{copied_pairs, is_mfw}
use Rattle.x7_pipeline.specs.Fault.{completes}
use Rattle.x7_flow.specs.Asking.{Asked, AddsWord, CopiesSource}
use Rattle.x7_flow.specs.HistoryFlow.{Flow, asked_after, flow_of}

-- the pair of the newest of frames, at its slot: none where there are no frames or that slot is no frame's
abbrev pub newest_put : PartData → ℕ → List (List ℕ) → List PlanRow
newest_put part base [] = []
newest_put part base (frame ∷ older) = at_slot (slice_index_or (slots_from part base) (length older) End) frame []

-- the pairs by which the written frames of a run grow at one word more: where it completes a frame, that of the frame
-- before it
unfoldable pub written_frames_more : PartData → ℕ → List ℕ → List PlanRow
written_frames_more part base run = if completes part run then newest_put part base (frames_of (frame_words part) run) else []

-- the pair of a copy: the source, if there is one, at the base, under MFW and where the base is an address; else none
abbrev pub copy_pairs : PartData → Flow → List PlanRow
copy_pairs part f = if is_mfw f.command && is_frame_address part f.base then copied_pairs f.base f.source else []

-- the pairs that the memory gets by what an access asks
abbrev pub pairs_put : PartData → Asked → Flow → List PlanRow
pairs_put part (AddsWord w) f = written_frames_more part f.base f.run
pairs_put part CopiesSource f = copy_pairs part f
pairs_put part _ f = []

-- the memory of a history
unfoldable pub memory_of : PartData → History → FrameMap
memory_of part [] = zeros part
memory_of part (e ∷ h) = put_over (pairs_put part (asked_after part.idcode h e.access) (flow_of part h)) (memory_of part h)

-- A flow, which is what a frame pipeline stands for, and the flows that come next (UG470, frame address register and
-- frame data registers).
use Rattle.std.specs.Prelude.{◌≡◌, ℕ, ◌+◌, ◌-◌, ◌<◌, ◌≤◌, List, [], length, slice_index_or, Option, None, Some, ◌/◌, ◌%◌}
use Rattle.x7_part.specs.Part.{PartData, frame_words}
use Rattle.x7_part.specs.Address.{far_width}
use Rattle.x7_part.specs.Slot.{slots_from}
use Rattle.x7_part.specs.declared.slot.Slot.TheVariants.{End}
use Rattle.x7_memory.specs.FrameMap.{FrameMap}
use Rattle.x7_regs.specs.declared.command.Command.{Command}
use Rattle.x7_regs.specs.declared.command.Command.TheVariants.{Null}
use Rattle.x7_pipeline.specs.FarAsRead.{far_of}
use Rattle.x7_memory.specs.PartFrames.{frame_at}
use Rattle.x7_memory.specs.Plan.{PlanRow}
use Rattle.x7_pipeline.specs.declared.fault.RunFault.{RunFault}
use Rattle.x7_pipeline.specs.Copies.{copied_pairs, newest_of, source_after}
use Rattle.x7_pipeline.specs.Fault.{copy_fault}
use Rattle.x7_pipeline.specs.Readback.{given_stored, read_slot}
use Rattle.x7_pipeline.specs.Pipeline.{PipelineData}
use Rattle.x7_pipeline.specs.Runs.{GetsPairs, Lands, at_slot, frames_of, onto, rest_of}
use Rattle.x7_pipeline.specs.RunWritten.{RunWritten, run_written}

-- the command, the address that the run or readback began at, the words of the run (the newest first), the frame that
-- copies put, and how many words a readback gave
pub record Flow : Type 0 where
  pub command : Command
  pub base : ℕ
  pub run : List ℕ
  pub source : Option (List ℕ)
  pub given : ℕ

-- the flow after a reset
abbrev pub first_flow : Flow
first_flow = record { command = Null; base = 0; run = []; source = None; given = 0 }

-- the pipeline stands for the flow
pub record HoldsFlow (part : PartData) (pipeline : PipelineData) (f : Flow) : Type 0 where
  pub some_words : 0 < pipeline.width
  pub width_is : pipeline.width ≡ frame_words part
  pub far_width_is : pipeline.far_width ≡ far_width part
  pub command_is : pipeline.command ≡ f.command
  pub base_is : pipeline.base ≡ f.base
  pub rest_is : pipeline.rest ≡ rest_of (frame_words part) f.run
  pub newest_is : pipeline.newest ≡ newest_of (frames_of (frame_words part) f.run)
  pub count_is : pipeline.frame_count ≡ length (frames_of (frame_words part) f.run)
  pub within : length (frames_of (frame_words part) f.run) ≤ length (slots_from part f.base)
  pub source_is : pipeline.source ≡ f.source
  pub given_is : pipeline.given ≡ given_stored part f.base f.given
  pub slot_is : pipeline.slot ≡ read_slot part f.base (given_stored part f.base f.given)

-- a fact holds of each flow that the pipeline stands for
abbrev pub ForEachFlow : PartData → PipelineData → (Flow → Type 0) → Type 0
ForEachFlow part p Fact = (f : Flow) → HoldsFlow part p f → Fact f

-- the first `count` of the bytes are whole words, one at least
abbrev pub AreWordsTaken : ℕ → List ℕ → Type 0
AreWordsTaken count bytes = (1 ≤ count / 4) × (count % 4 ≡ 0) × (count ≤ length bytes)

-- whatever flow the old pipeline stands for, the new one stands for the flow that `next` makes of it
abbrev pub FlowGoesOn : PartData → PipelineData → PipelineData → (Flow → Flow) → Type 0
FlowGoesOn part old new next = ForEachFlow part old (λ f. HoldsFlow part new (next f))

-- ---- flows that come next

-- the flow with another run
abbrev pub with_run : List ℕ → Flow → Flow
with_run run f = record f { run = run }

-- the flow after words written, the oldest first
abbrev pub after_words : List ℕ → Flow → Flow
after_words words f = with_run (onto words f.run) f

-- the flow after a readback gave `count` words more
abbrev pub after_reads : ℕ → Flow → Flow
after_reads count f = record f { given = f.given + count }

-- the flow after a FAR load: a run begins at this base
abbrev pub begun_at : ℕ → Flow → Flow
begun_at base f = record f { base = base; run = []; given = 0 }

-- the flow after a command: a run begins at FAR as read
abbrev pub begun_by : PartData → Command → Flow → Flow
begun_by part command f = record {
  command = command;
  base = far_of part f.base f.run f.given;
  run = [];
  source = source_after part f.command command f.run;
  given = 0;
}

-- ---- a copy

-- what a copy puts
abbrev pub pairs_copied_by : Flow → List PlanRow
pairs_copied_by f = copied_pairs f.base f.source

-- why a copy is refused, where it is
abbrev pub fault_of_copy : PartData → Flow → Option RunFault
fault_of_copy part f = copy_fault part f.command f.base f.source

-- ---- words written in order

-- words written in order to a flow, up to the first that is refused
abbrev pub flow_written : PartData → Flow → List ℕ → RunWritten
flow_written part f words = run_written part f.base f.run words

-- the memory gets the frames that land as these words are written, the oldest first
abbrev pub LandsAt : PartData → Flow → List ℕ → FrameMap → FrameMap → Type 0
LandsAt part f words old new = Lands part f.base f.run (onto words f.run) old new

-- whatever flow the pipeline stands for: the memory, old before and new after, got the frames that land as these words
-- are written, the oldest first
abbrev pub FramesLand : PartData → PipelineData → List ℕ → List (List ℕ) → List (List ℕ) → Type 0
FramesLand part p words old new = ForEachFlow part p (λ f. LandsAt part f words (frame_at part old) (frame_at part new))

-- whatever flow the pipeline stands for: the memory, old before and new after, got the frames that land as these words
-- are written up to the first that is refused
abbrev pub FramesLandUpToFault : PartData → PipelineData → List ℕ → List (List ℕ) → List (List ℕ) → Type 0
FramesLandUpToFault part p words old new =
    ForEachFlow part p (λ f. Lands part f.base f.run (flow_written part f words).run (frame_at part old) (frame_at part new))

-- ---- the newest whole frame

-- the newest whole frame, where there is one, was put at its slot, and nowhere where that is no frame's
abbrev pub PutsNewest : PartData → PipelineData → FrameMap → FrameMap → Type 0
PutsNewest part p old new = (frame : List ℕ) → p.newest ≡ Some frame →
    GetsPairs (at_slot (slice_index_or (slots_from part p.base) (p.frame_count - 1) End) frame []) old new

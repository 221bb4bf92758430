-- What a frame pipeline stores (this project's choice).
use Rattle.std.specs.Prelude.{◌≡◌, ℕ, ◌+◌, ◌*◌, ◌/◌, min, List, ◌∷◌, length, slice_index_or, Option}
use Rattle.x7_part.specs.Part.{PartData, frame_words}
use Rattle.x7_part.specs.Address.{far_width}
use Rattle.x7_part.specs.declared.slot.Slot.{Slot}
use Rattle.x7_part.specs.declared.slot.Slot.TheVariants.{End, Pad}
use Rattle.x7_memory.specs.PartFrames.{AreFramesOf}
use Rattle.x7_regs.specs.declared.command.Command.{Command}
use Rattle.x7_part.specs.Slot.{slots_from}

-- what a pipeline stores
pub record PipelineData : Type 0 where
  -- how many words a frame has, and how many bits an address
  pub width : ℕ
  pub far_width : ℕ
  -- the command that stands, and the address that the run or the readback began at
  pub command : Command
  pub base : ℕ
  -- the run's words after its last whole frame, its newest whole frame, and the number of its whole frames
  pub rest : List ℕ
  pub newest : Option (List ℕ)
  pub frame_count : ℕ
  -- the frame that copies take
  pub source : Option (List ℕ)
  -- how many words a readback gave, counted up to where there are zeros alone, and the slot of its next word
  pub given : ℕ
  pub slot : Slot

-- the pipeline is one of the part: its frames have as many words as the part's, and its addresses as many bits
abbrev pub IsPipelineOf : PartData → PipelineData → Type 0
IsPipelineOf part pipeline = (pipeline.width ≡ frame_words part) × (pipeline.far_width ≡ far_width part)

-- a pipeline and the frames of a memory are those of one part
pub record AreOfPart (part : PartData) (p : PipelineData) (frames : List (List ℕ)) : Type 0 where
  pub pipeline_fits : IsPipelineOf part p
  pub frames_fit : AreFramesOf part frames

-- a call changed neither the pipeline nor the memory's frames, each old before and new after it
pub record ChangedNothing (old new : PipelineData) (old_frames new_frames : List (List ℕ)) : Type 0 where
  pub unchanged : new ≡ old
  pub same_memory : new_frames ≡ old_frames

-- how many words a readback gave after `n` more, counted up to where there are zeros alone
abbrev pub given_after : PartData → PipelineData → ℕ → ℕ
given_after part p n = min (p.given + n) (p.width * (1 + length (slots_from part p.base)))

-- the slot of the next word of a readback that gave `given` words: one pad frame, the slots from the base on, and then
-- `End`
abbrev pub slot_given : PartData → PipelineData → ℕ → Slot
slot_given part p given = slice_index_or (Pad ∷ slots_from part p.base) (given / p.width) End

-- the pipeline after a readback gave `n` words more
abbrev pub with_words_passed : PartData → PipelineData → ℕ → PipelineData
with_words_passed part p n = record p { given = given_after part p n; slot = slot_given part p (given_after part p n) }

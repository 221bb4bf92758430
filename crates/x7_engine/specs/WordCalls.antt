-- What calls that take words ask of a device's registers, and what such calls leave of them (this project's choice).
use Rattle.std.specs.Prelude.{◌≡◌, ℕ, ◌<◌, ◌≤◌, List, Option, None, Some}
use Rattle.x7_words.specs.Word.{AreWholeWords}
use Rattle.x7_packets.specs.declared.header.Step.{Step}
use Rattle.x7_part.specs.Part.{PartData}
use Rattle.x7_flow.specs.Standing.{FramesFit}
use Rattle.x7_engine.specs.declared.registers.Registers.{Registers}
use Rattle.x7_engine.specs.declared.stop.StopCause.{StopCause}
use Rattle.x7_engine.specs.Entering.{Change}
use Rattle.x7_engine.specs.Standing.{IsHeaderStep, due_count}

-- registers that can take a word: nothing stopped them, no word is due, and their
-- frames are those of a device of the part
pub record MayTakeWords (part : PartData) (d : Registers) : Type 0 where
  pub going : d.values.stop ≡ None
  pub no_word_due : due_count d.values.due ≡ 0
  pub frames : FramesFit part d.frames

-- registers that can take words written to a register, four bytes each
pub record MayTakePayload (part : PartData) (d : Registers) (bytes : List ℕ) : Type 0 where
  pub may_take : MayTakeWords part d
  pub whole : AreWholeWords bytes

-- registers that can take the step of a word in a header's place
pub record MayTakeHeader (part : PartData) (d : Registers) (step : Step) : Type 0 where
  pub may_take : MayTakeWords part d
  pub header : IsHeaderStep step

-- a call leaves the words due as they were, and the frames are still those of a device of the part
pub record LeavesDue (x : Change) : Type 0 where
  pub due : x.new.values.due ≡ x.old.values.due
  pub frames : FramesFit x.part x.new.frames

-- of `count` bytes the registers took `taken`: all of them unless a stop came, and at least one where there is one
pub record TakesUpTo (count taken : ℕ) (stop : Option StopCause) : Type 0 where
  pub within : taken ≤ count
  pub takes_some : 0 < count → 0 < taken
  pub goes_on : stop ≡ None → taken ≡ count

-- of `count` bytes the registers left `left`: none of them unless a stop came
pub record LeavesBytes (count left : ℕ) (d : Registers) : Type 0 where
  pub within : left ≤ count
  pub goes_on : d.values.stop ≡ None → left ≡ 0

-- registers that a stop has stopped have no word due, and the frames are still those of a device of the part
pub record HasNoneDueAtStop (part : PartData) (d : Registers) : Type 0 where
  pub none_due_at_stop : (why : StopCause) → d.values.stop ≡ Some why → due_count d.values.due ≡ 0
  pub frames : FramesFit part d.frames

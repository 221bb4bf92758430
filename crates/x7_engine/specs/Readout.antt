-- Words that are due, given to a buffer (this project's choice).
use Rattle.std.specs.Prelude.{◌≡◌, ◌<◌, ℕ, ◌++◌, List, None}
use Rattle.x7_flow.specs.Standing.{FramesFit}
use Rattle.x7_part.specs.Part.{PartData}
use Rattle.x7_engine.specs.declared.registers.Registers.{Registers}
use Rattle.x7_engine.specs.Entering.{Change, HaveHistory, ForEachHistory}
use Rattle.x7_engine.specs.ReadBuffer.{IsFull, ReadBufState, with_words}
use Rattle.x7_engine.specs.Standing.{RegistersStandFor, due_count, registers_in, words_still_due}

-- of `words` the buffer got the first ones, all but `rest`
pub record GotAllBut (rest words : List ℕ) (old new : ReadBufState) : Type 0 where
  pub more : List ℕ
  pub read_is : new ≡ with_words old more
  pub words_are : words ≡ more ++ rest

-- registers that can give the words due: nothing stopped them, their frames are those of a device of the part, and they
-- stand for a history
pub record MayGiveWords (part : PartData) (d : Registers) : Type 0 where
  pub going : d.values.stop ≡ None
  pub frames : FramesFit part d.frames
  pub history : HaveHistory part (registers_in d)

-- registers gave a buffer the words due, all of them or as many as it has room for
pub record GaveWordsDue (x : Change) (old new : ReadBufState) : Type 0 where
  pub full : 0 < due_count x.new.values.due → IsFull new
  pub going : x.new.values.stop ≡ None
  pub frames : FramesFit x.part x.new.frames
  pub stands : ForEachHistory x.part x.old (λ kept h n. RegistersStandFor x.part kept x.new h n)
  pub given : ForEachHistory x.part x.old (λ kept h n. GotAllBut (words_still_due x.part h x.new.values.due) (words_still_due x.part h x.old.values.due) old new)

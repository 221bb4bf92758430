-- What an access asks of the frame pipeline (UG470, frame address register and frame data registers).
use Rattle.std.specs.Prelude.{ℕ}
use Rattle.x7_regs.specs.declared.command.Command.{Command}

-- an access loads FAR with a word, gives a command, by a write to CMD, adds a word of frame data to the run, copies the
-- source, reads `count` words of frame data, or asks nothing of the pipeline
pub data Asked : Type 0 where
  LoadsFar : (word : ℕ) → Asked
  Commands : (command : Command) → Asked
  AddsWord : (word : ℕ) → Asked
  CopiesSource : Asked
  Reads : (count : ℕ) → Asked
  NothingAsked : Asked

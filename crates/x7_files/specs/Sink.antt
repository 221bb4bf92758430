-- A writer as a sink (this project's choice).
use Rattle.std.specs.Prelude.{ℕ, List, Option}
use Rattle.x7_files.specs.declared.file_call.FileCall.{FileCall}

-- a writer as a sink; its count stops at 2^64 - 1
pub record RealSink : Type 0 where
  -- what the writer holds, where it knows that
  pub contents : Option (List ℕ)
  -- what it took since the sink was made
  pub taken : List ℕ
  -- the writes that were made with their answers, the newest last
  pub calls : List FileCall
  -- how many faults there were
  pub faults : ℕ

-- What a reader of packets keeps between two runs of an input (this project's choice).
use Rattle.std.specs.Prelude.{ℕ, List, Bool}
use Rattle.x7_packets.specs.Cutter.{CutterState}
use Rattle.x7_packets.specs.FoundRun.{FoundRun}

-- how many bytes are read at once at most, as many as the buffer holds
abbrev pub piece_size : ℕ
piece_size = 65536

-- a reader of packets
pub record PacketsState : Type 0 where
  pub cutter : CutterState
  -- the bytes that were read and that the cutter has not taken
  pub left : List ℕ
  -- the last run, without its bytes
  pub found : FoundRun
  -- the bytes of the last run that stand in the buffer
  pub bytes : List ℕ
  -- whether the last run was the tail or the end
  pub is_done : Bool
  -- whether a read failed
  pub has_failed : Bool
  -- how many bytes were read of the input, also those that the cutter has not taken
  pub taken : ℕ

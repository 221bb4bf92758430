-- Where a cutter stands in a stream (this project's choice: a sync word is given by itself, after the bytes that it
-- ends).
use Rattle.x7_packets.specs.declared.cutter.Stage.{Stage}
use Rattle.x7_packets.specs.declared.cutter.Stage.TheVariants as stage

-- where a cutter stands in a stream
pub data Mode : Type 0 where
  -- in a gap
  Searching : Mode
  -- just after a sync word that is still to be given
  SyncFound : Mode
  -- in a session
  Synced : Mode

-- where a cutter stands in a stream, by the cutter's field
abbrev pub mode_of : Stage → Mode
mode_of stage.Searching = Mode.Searching
mode_of stage.SyncFound = Mode.SyncFound
mode_of stage.Synced = Mode.Synced

-- Moves of a device along its stream, with the records that lead it back: what they ask, and what they come to (this
-- project's choice).
use Rattle.std.specs.Prelude.{◌≡◌, ◌≤◌, ◌<◌, ◌-◌, ℕ, List, max}
use Rattle.x7_engine.specs.Standing.{DeviceState}
use Rattle.x7_debug.specs.Journal.{ComesToPosition, IsFedAsTaken, IsOnStream, JournalState, oldest_by, reach, records_of}
use Rattle.x7_debug.specs.Position.{last_of}

-- a device on its stream, with its records, can be brought to position `to`, which isn't past the last one
pub record MayMove (stream : List ℕ) (d : DeviceState) (j : JournalState) (to : ℕ) : Type 0 where
  pub on : IsOnStream d.part stream d j
  pub within : to ≤ last_of d.part stream

-- a device on its stream, with its records, can be brought forward to position `to`, which isn't past the last one and
-- may be where it stands
pub record MayMoveForward (stream : List ℕ) (d : DeviceState) (j : JournalState) (to : ℕ) : Type 0 where
  pub may : MayMove stream d j to
  pub forward : d.taken ≤ to

-- a device on its stream can be brought back to the earlier position `to`, to which its records lead
pub record MayMoveBack (stream : List ℕ) (d : DeviceState) (j : JournalState) (to : ℕ) : Type 0 where
  pub on : IsOnStream d.part stream d j
  pub before : to < d.taken
  pub led : oldest_by d.taken (records_of j) ≤ to

-- a device on its stream, with its records, is before the last position, which is `last`
pub record IsBeforeLast (stream : List ℕ) (d : DeviceState) (j : JournalState) (last : ℕ) : Type 0 where
  pub on : IsOnStream d.part stream d j
  pub last_is : last ≡ last_of d.part stream
  pub before : d.taken < last

-- a device came to position n of its stream, from which the records lead back, and was fed at most as many bytes as it
-- went forward
pub record ComesForward (stream : List ℕ) (old new : DeviceState) (j : JournalState) (n : ℕ) : Type 0 where
  pub there : ComesToPosition stream old new j n
  pub fed : IsFedAsTaken old new

-- a device came to position n of its stream as `ComesForward` says; its records lead back to where it was, or at least
-- `reach` bytes
pub record ComesForwardRecorded (stream : List ℕ) (old new : DeviceState) (j : JournalState) (n : ℕ) : Type 0 where
  pub forward : ComesForward stream old new j n
  pub oldest : oldest_by new.taken (records_of j) ≤ max old.taken (new.taken - reach)

-- The state of a session by the fields of a `Session`, and what holds of these fields (this project's choice).
use Rattle.std.specs.Prelude.{◌≡◌, ℕ, List}
use Rattle.x7_engine.specs.Standing.{DeviceState, fed_of}
use Rattle.x7_debug.specs.Journal.{IsOnStream, JournalState, oldest_by, records_of}
use Rattle.x7_debug.specs.Position.{BeginsAtSoonest, last_of}
use Rattle.x7_debug.specs.Session.{SessionState}
use Rattle.x7_debug.specs.declared.outline.Outline.{Outline}

-- a session of this device at its position of the stream, with its records
abbrev pub session_of : DeviceState → List ℕ → JournalState → SessionState
session_of d stream j = record { part = d.part; stream = stream; at = d.taken; oldest = oldest_by d.taken (records_of j); fed = fed_of d }

-- a session's device is on its stream, with its records, and the outline is that of the stream
pub record SessionFits (d : DeviceState) (stream : List ℕ) (o : Outline) (j : JournalState) : Type 0 where
  pub on : IsOnStream d.part stream d j
  pub last_is : o.last ≡ last_of d.part stream
  pub begins_is : BeginsAtSoonest d.part stream o.begins

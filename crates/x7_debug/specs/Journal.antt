-- The records of a session: devices kept on the way, the newest first, which lead back along the stream (this project's
-- choice).
use Rattle.std.specs.Prelude.{◌≡◌, ℕ, ◌+◌, ◌-◌, ◌*◌, ◌<◌, ◌≤◌, max, List, [], ◌∷◌, length, take}
use Rattle.std.specs.List.{AllByRecursion}
use Rattle.x7_part.specs.Part.{PartData}
use Rattle.x7_engine.specs.Standing.{DeviceState, fed_of}
use Rattle.x7_engine.specs.Undo.{IsUndoOf, SavesDevice, UndoState, undo_reach}
use Rattle.x7_debug.specs.Session.{MovesTo, SessionState, StandsAtPosition}

-- how many records there is room for
abbrev pub record_room : ℕ
record_room = 64

-- how many bytes a record leads back at most
abbrev pub record_reach : ℕ
record_reach = undo_reach

-- how many bytes the records lead back at least after one move forward of at least this length: four for each record
-- but the newest, which may be just one byte before the position. After several shorter moves they may lead back over
-- fewer bytes.
abbrev pub reach : ℕ
reach = (record_room - 1) * record_reach + 1

-- the room for records, of which the first `count` are in use
pub record JournalState : Type 0 where
  pub all : List UndoState
  pub count : ℕ

-- the records in use, the newest first
abbrev pub records_of : JournalState → List UndoState
records_of j = take j.count j.all

-- all records, in use or not, are of devices of the part
abbrev pub AreRecordsOf : PartData → JournalState → Type 0
AreRecordsOf part j = AllByRecursion (IsUndoOf part) j.all

-- the record `u` keeps a device that stood at position `u.taken` of the stream
pub record IsRecord (part : PartData) (stream : List ℕ) (u : UndoState) : Type 0 where
  pub device : DeviceState
  pub saves : SavesDevice u device
  pub at_position : StandsAtPosition part stream device u.taken

-- each record is of a device on the stream, at most four bytes before the next newer one, and the newest one at most
-- four before position `at`
abbrev pub LeadBack : PartData → List ℕ → ℕ → List UndoState → Type 0
LeadBack part stream at [] = Unit {0}
LeadBack part stream at (u ∷ older) = IsRecord part stream u × (u.taken ≤ at) × (at ≤ u.taken + record_reach) × LeadBack part stream u.taken older

-- the position of the oldest record, and `at` where there is none
abbrev pub oldest_by : ℕ → List UndoState → ℕ
oldest_by at [] = at
oldest_by at (u ∷ older) = oldest_by u.taken older

-- a device at its position of the stream, and records that lead back from there
pub record IsOnStream (part : PartData) (stream : List ℕ) (d : DeviceState) (j : JournalState) : Type 0 where
  pub at_position : StandsAtPosition part stream d d.taken
  pub records : AreRecordsOf part j
  pub few : length (records_of j) ≤ record_room
  pub leads : LeadBack part stream d.taken (records_of j)

-- `Fact` holds of each stream that a device is on with its records
abbrev pub ForEachStream : DeviceState → JournalState → (List ℕ → Type 0) → Type 0
ForEachStream d j Fact = (stream : List ℕ) → IsOnStream d.part stream d j → Fact stream

-- a device came to position n of the stream, and these records lead back from there
pub record ComesToPosition (stream : List ℕ) (old new : DeviceState) (j : JournalState) (n : ℕ) : Type 0 where
  pub on : IsOnStream new.part stream new j
  pub part : new.part ≡ old.part
  pub taken : new.taken ≡ n

-- a record of the device `d` is the newest one now, and the others stay in use, but the oldest where the room was full
pub record HasRecorded (d : DeviceState) (old new : JournalState) : Type 0 where
  pub undo : UndoState
  pub saves : SavesDevice undo d
  pub records : records_of new ≡ undo ∷ take (record_room - 1) (records_of old)

-- there is a record, and position `at` is at most four bytes after the newest one
pub record IsNearNewest (j : JournalState) (at : ℕ) : Type 0 where
  pub undo : UndoState
  pub older : List UndoState
  pub records : records_of j ≡ undo ∷ older
  pub near : at ≤ undo.taken + record_reach

-- a device was fed at most `count` bytes more
pub record IsFedAtMost (old new : DeviceState) (count : ℕ) : Type 0 where
  pub never_less : fed_of old ≤ fed_of new
  pub most : fed_of new ≤ fed_of old + count

-- a device was fed at most as many bytes more as it took
abbrev pub IsFedAsTaken : DeviceState → DeviceState → Type 0
IsFedAsTaken old new = IsFedAtMost old new (new.taken - old.taken)

-- a device moved, and its records lead back to the position to which they led before the move
abbrev pub KeepsOldest : DeviceState → JournalState → DeviceState → JournalState → Type 0
KeepsOldest old j new k = oldest_by new.taken (records_of k) ≡ oldest_by old.taken (records_of j)

-- How far records lead back after a move, and how many bytes the device was fed in it. A move to where the session
-- stands feeds none, by `never_less` and `forward_fed`.
pub record MoveCosts (old new : SessionState) : Type 0 where
  pub stays_oldest : new.at ≡ old.at → new.oldest ≡ old.oldest
  pub forward_oldest : old.at < new.at → new.oldest ≤ max old.at (new.at - reach)
  pub near_oldest : new.at < old.at → old.oldest ≤ new.at → new.oldest ≡ old.oldest
  pub far_oldest : new.at < old.oldest → new.oldest ≤ new.at - reach
  pub never_less : old.fed ≤ new.fed
  pub forward_fed : old.at ≤ new.at → new.fed ≤ old.fed + (new.at - old.at)
  pub near_fed : old.oldest ≤ new.at → new.at < old.at → new.fed ≤ old.fed + (record_reach - 1)
  pub far_fed : new.at < old.oldest → new.fed ≤ old.fed + new.at

-- a session moved to position n; how many bytes its device was fed and how far records lead back is as `MoveCosts` says
pub record IsMove (old new : SessionState) (n : ℕ) : Type 0 where
  pub there : MovesTo old new n
  pub costs : MoveCosts old new

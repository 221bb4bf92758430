-- The runs of a stream (bytes of a gap, a sync word, a header, payload words, the tail, the end), as they come one
-- after another (this project's choice).
use Rattle.std.specs.Prelude.{◌≡◌, ℕ, ◌<◌, List, [], ◌++◌, length, Bool, true, false}
use Rattle.x7_packets.specs.Reading.{Place, Searching, Synced, EndedSession, IsReading}
use Rattle.x7_packets.specs.Cutter.{CutAdds, IsRun, ChangesMode, run_bytes}
use Rattle.x7_packets.specs.declared.cutter.Cut.{Cut}
use Rattle.x7_packets.specs.declared.cutter.Cut.TheVariants as cut
use Rattle.x7_packets.specs.Mode.{Mode}
use Rattle.x7_packets.specs.declared.stream.Run.{Run}
use Rattle.x7_packets.specs.declared.stream.Run.TheVariants as run

-- a run as a cutter gives it; `Need` for the tail and the end, which no cutter gives
abbrev pub cut_of : Run → Cut
cut_of (run.Skip bytes) = cut.Skip bytes
cut_of run.Sync = cut.Sync
cut_of (run.Head w step) = cut.Head w step
cut_of (run.Word register w) = cut.Word register w
cut_of (run.Body register bytes) = cut.Body register bytes
cut_of (run.Tail bytes) = cut.Need
cut_of run.End = cut.Need

-- the bytes that a run gives
abbrev pub bytes_of_run : Run → List ℕ
bytes_of_run (run.Tail bytes) = bytes.now
bytes_of_run r = run_bytes (cut_of r)

-- the run is the tail or the end: nothing but the end comes after it
abbrev pub is_last : Run → Bool
is_last (run.Tail bytes) = true
is_last run.End = true
is_last r = false

-- what a run adds to the reading of the bytes given before it: the tail adds bytes of no whole word, the end nothing,
-- any other run what its cut adds (`CutAdds`)
abbrev pub RunAdds : Run → List EndedSession → Place → List EndedSession → Place → Type 0
RunAdds (run.Tail bytes) sessions (Searching gap) new_sessions new = ⊥
RunAdds (run.Tail bytes) sessions (Synced gap packets tail) new_sessions new = (new_sessions ≡ sessions) × (tail ≡ []) × (new ≡ Synced gap packets bytes.now)
RunAdds run.End sessions place new_sessions new = (new_sessions ≡ sessions) × (new ≡ place)
RunAdds r sessions place new_sessions new = CutAdds (cut_of r) sessions place new_sessions new

-- what holds of a run by itself, whatever the reading: the tail has one to three bytes, and of any other run holds what
-- holds of a cutter's (`IsRun`)
abbrev pub FitsRun : Run → Type 0
FitsRun (run.Tail bytes) = (0 < length bytes.now) × (length bytes.now < 4)
FitsRun r = IsRun (cut_of r)

-- the run is what comes next after these bytes; `old` and `new` say where the cutter stands before and after it
pub record IsNext (bytes : List ℕ) (old : Mode) (r : Run) (new : Mode) : Type 0 where
  pub sessions : List EndedSession
  pub place : Place
  pub new_sessions : List EndedSession
  pub new_place : Place
  pub before : IsReading bytes sessions place
  pub after : IsReading (bytes ++ bytes_of_run r) new_sessions new_place
  pub adds : RunAdds r sessions place new_sessions new_place
  pub mode_changes : ChangesMode (cut_of r) old new new_place
  pub fits : FitsRun r

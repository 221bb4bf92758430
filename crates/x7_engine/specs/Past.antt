-- Pasts. A past is all that the state of a device is a function of: the part, what the last reset kept,
-- whether the flash has ended since then, and the bytes since then. A clause on a device speaks of each
-- past that the device has (this project's choice).
-- What ends in `_at` takes a past. Most are a definition of State.antt, Standing.antt or UntilStarted.antt that takes
-- the past's values one by one: `state_at` is `state_of`, and `first_stop_at` is `first_stop_of_bytes`.
use Rattle.std.specs.Prelude.{◌≡◌, ℕ, ◌<◌, ◌==◌, ◌++◌, Bool, false, List, length, take, Option, None, Some}
use Rattle.x7_words.specs.Word.{AreBytes}
use Rattle.x7_packets.specs.History.{Access, History}
use Rattle.x7_regs.specs.declared.boot_status.Kind.TheVariants.{Bench}
use Rattle.x7_regs.specs.declared.register.Reg.{Reg}
use Rattle.x7_memory.specs.FrameMap.{FrameMap}
use Rattle.x7_part.specs.Part.{PartData}
use Rattle.x7_startup.specs.Phases.{last_phase}
use Rattle.x7_engine.specs.Checked.{StandsIn}
use Rattle.x7_engine.specs.declared.fault.Fault.{Fault}
use Rattle.x7_engine.specs.declared.fed.Fed.{Fed}
use Rattle.x7_engine.specs.declared.fed.Fed.TheVariants as fed
use Rattle.x7_engine.specs.declared.stop.StopCause.TheVariants as stop
use Rattle.x7_engine.specs.declared.kept.Kept.{Kept}
use Rattle.x7_engine.specs.declared.snapshot.Snapshot.{Snapshot}
use Rattle.x7_engine.specs.declared.until_started.UntilStarted.{UntilStarted}
use Rattle.x7_engine.specs.declared.until_started.UntilStarted.TheVariants as until
use Rattle.x7_engine.specs.ReadBuffer.{IsFull, ReadBufState}
use Rattle.x7_engine.specs.Shown.{with_values}
use Rattle.x7_engine.specs.Standing.{DeviceStandsFor, DeviceState, NoWordDue, due_count, taken_in, reads_given, words_still_due}
use Rattle.x7_engine.specs.State.{cause_of, course_taken, history_taken, why_stopped, memory_of_bytes, reads_of, state_of, first_stop_of_bytes, taken_of, value_of}
use Rattle.x7_engine.specs.Stop.{Stopped, fault_of_stop}
use Rattle.x7_engine.specs.UntilStarted.{has_started, taken_until}
use Rattle.x7_engine.specs.Value.{value_owing}

-- a past; `wrapped` says that the flash has ended before the attempt did (BOOTSTS, WRAP_ERROR). A device that has the
-- past took all of its bytes.
pub record Past : Type 0 where
  pub part : PartData
  pub kept : Kept
  pub wrapped : Bool
  pub bytes : List ℕ

-- the past with this part, these kept values, whether the flash has ended, and these bytes
abbrev pub past_of : PartData → Kept → Bool → List ℕ → Past
past_of part kept wrapped bytes = record { part = part; kept = kept; wrapped = wrapped; bytes = bytes }

-- the past after more bytes
abbrev pub later : Past → List ℕ → Past
later p more = past_of p.part p.kept p.wrapped (p.bytes ++ more)

-- the device stands for the bytes of a past
abbrev pub HasPast : DeviceState → Past → Type 0
HasPast d p = DeviceStandsFor p.part p.kept p.wrapped d p.bytes

-- the device has a past
pub record HasSomePast (d : DeviceState) : Type 0 where
  pub past : Past
  pub has : HasPast d past

-- `Fact` holds of each past that the device has
abbrev pub ForEachPast : DeviceState → (Past → Type 0) → Type 0
ForEachPast d Fact = (part : PartData) (kept : Kept) (wrapped : Bool) (bytes : List ℕ)
    → DeviceStandsFor part kept wrapped d bytes → Fact (past_of part kept wrapped bytes)

-- the state that the bytes of a past leave
abbrev pub state_at : Past → Snapshot
state_at p = state_of p.part p.kept p.wrapped p.bytes

-- the value of a register that the bytes of a past leave
abbrev pub value_at : Past → Reg → ℕ
value_at p = value_of p.part p.kept p.wrapped p.bytes

-- the first stop in the bytes of a past, where there is one
abbrev pub first_stop_at : Past → Option Stopped
first_stop_at p = first_stop_of_bytes p.part p.kept p.bytes

-- the value of a register that the bytes of a past leave, while `due` words of frame data of the last read are still to
-- be given
abbrev pub value_owing_at : Past → ℕ → Reg → ℕ
value_owing_at p = value_owing (course_taken p.part p.kept p.bytes) p.wrapped (fault_of_stop (why_stopped (first_stop_at p)))

-- the state that the bytes of a past leave, while `due` words of frame data of the last read are still to be given, which
-- FAR alone shows
abbrev pub state_owing_at : Past → ℕ → Snapshot
state_owing_at p due = record (state_at p) { registers = with_values (value_owing_at p due) }

-- the words that a device of a past reads out
abbrev pub reads_at : Past → List ℕ
reads_at p = reads_of p.part p.kept p.bytes

-- the memory of a device of a past
abbrev pub memory_at : Past → FrameMap
memory_at p = memory_of_bytes p.part p.kept p.bytes

-- the history of the bytes that a device of a past takes
abbrev pub history_taken_at : Past → History
history_taken_at p = history_taken p.part p.kept p.bytes

-- how many of the bytes of a past are taken
abbrev pub taken_at : Past → ℕ
taken_at p = taken_of p.part p.kept p.bytes

-- of the words that a device of a past reads out, those that were given
abbrev pub reads_given_at : DeviceState → Past → List ℕ
reads_given_at d p = reads_given p.part p.kept d p.bytes

-- of the words that a device of a past reads out, those that are still due
abbrev pub due_at : DeviceState → Past → List ℕ
due_at d p = words_still_due p.part (history_taken_at p) d.registers.values.due

-- startup has ended with the bytes of a past
abbrev pub started_at : Past → Bool
started_at p = has_started p.part p.kept p.bytes

-- ---- stops

-- what is kept is that of an attempt of a boot: a flash boots the device
abbrev pub IsBootAttempt : Kept → Type 0
IsBootAttempt kept = kept.kind ≡ Bench → ⊥

-- the bytes of a past have this first stop, and the bytes `more` come after them
pub record HasStoppedBefore (p : Past) (more : List ℕ) (s : Stopped) : Type 0 where
  pub fits : AreBytes (p.bytes ++ more)
  pub stop : first_stop_at p ≡ Some s

-- an access stands after older ones, and ends before the last byte that is taken, which is that of the stop where there
-- is one
pub record StandsBefore (p : Past) (access : Access) (place : ℕ) (older : History) : Type 0 where
  pub fits : AreBytes p.bytes
  pub stands : StandsIn (history_taken_at p) access place older
  pub before : place < taken_at p

-- the attempt of a boot goes on: startup hasn't ended, and neither a fault that
-- a fallback follows nor an IPROG ended it
pub record BootGoesOn (p : Past) : Type 0 where
  pub boots : IsBootAttempt p.kept
  pub not_started : ((state_at p).phase == last_phase) ≡ false
  pub not_failed : cause_of p.part p.kept p.bytes ≡ None
  pub not_left : why_stopped (first_stop_at p) ≡ Some stop.Iprog → ⊥

-- ---- what a call does that takes bytes

-- a device takes just the bytes `more`
abbrev pub TakesJust : DeviceState → DeviceState → List ℕ → Type 0
TakesJust old new more = ForEachPast old (λ p. HasPast new (later p more))

-- the bytes `more` give no word: the words given so far are those given before
abbrev pub GivesNoWord : DeviceState → DeviceState → List ℕ → Type 0
GivesNoWord old new more = ForEachPast old (λ p. reads_given_at new (later p more) ≡ reads_given_at old p)

-- what a feed answers, where `p` is the past with the bytes that it took. All: nothing stopped the device, and no word
-- is due. Stopped, Iprog: a fault, or an obeyed IPROG, stopped it at the last of these bytes, and no word is due.
-- ReadFull: nothing stopped it, a word is due, and the buffer is full.
abbrev pub AnswersAt : Past → DeviceState → ReadBufState → Fed → Type 0
AnswersAt p d read fed.All = (first_stop_at p ≡ None) × NoWordDue d
AnswersAt p d read (fed.Stopped n) = (f : Fault) × (first_stop_at p ≡ Some (record { place = length p.bytes; why = stop.Fault f })) × NoWordDue d
AnswersAt p d read (fed.Iprog n) = (first_stop_at p ≡ Some (record { place = length p.bytes; why = stop.Iprog })) × NoWordDue d
AnswersAt p d read (fed.ReadFull n) = (first_stop_at p ≡ None) × (0 < due_count d.registers.values.due) × IsFull read

-- what a feed up to the end of startup answers: where it says that startup has ended, no word is due; and else what a
-- feed answers
abbrev pub AnswersUntilAt : Past → DeviceState → ReadBufState → UntilStarted → Type 0
AnswersUntilAt p d read (until.Started n) = NoWordDue d
AnswersUntilAt p d read (until.Fed answer) = AnswersAt p d read answer

-- the bytes taken of a piece, by what a feed answers
abbrev pub prefix_taken : List ℕ → Fed → List ℕ
prefix_taken piece answer = take (taken_in (length piece) answer) piece

-- the bytes taken of a piece, by what a feed up to the end of startup answers
abbrev pub prefix_taken_until : List ℕ → UntilStarted → List ℕ
prefix_taken_until piece answer = take (taken_until (length piece) answer) piece

-- How the registers of a device go on: accesses enter the history that the registers stand for, up to what stops the
-- device (this project's choice).
use Rattle.std.specs.Prelude.{◌≡◌, ℕ, ◌+◌, ◌∷◌, ◌++◌, List}
use Rattle.x7_words.specs.Word.{words_of_bytes}
use Rattle.x7_packets.specs.Cutter.{run_steps}
use Rattle.x7_packets.specs.declared.cutter.Cut.{Cut}
use Rattle.x7_packets.specs.History.{Entry, History, Read, Write, entered, entered_all, entry, until}
use Rattle.x7_packets.specs.Packet.{payload_steps}
use Rattle.x7_packets.specs.declared.header.Step.{Step}
use Rattle.x7_part.specs.Part.{PartData}
use Rattle.x7_engine.specs.declared.due.Due.{Due}
use Rattle.x7_engine.specs.declared.kept.Kept.{Kept}
use Rattle.x7_engine.specs.declared.registers.Registers.{Registers}
use Rattle.x7_engine.specs.Standing.{EndsWords, IsNextAccess, RegistersStandFor, RegistersState, counted_in, registers_in, words_still_due}
use Rattle.x7_engine.specs.Value.{words_read_by, read_out}

-- `Fact` holds of all that the registers stand for: what the reset kept, the history, and the number of bytes taken
abbrev pub ForEachHistory : PartData → RegistersState → (Kept → History → ℕ → Type 0) → Type 0
ForEachHistory part d Fact = (kept : Kept) (h : History) (n : ℕ) → RegistersStandFor part kept d h n → Fact kept h n

-- the registers stand for a history
pub record HaveHistory (part : PartData) (d : RegistersState) : Type 0 where
  pub kept : Kept
  pub history : History
  pub taken : ℕ
  pub stands : RegistersStandFor part kept d history taken

-- how a history becomes longer: from the number of bytes taken before, and the history, to the longer one
abbrev pub Extension : Type 0
Extension = ℕ → History → History

-- the registers of a part's device before and after a call
pub record Change : Type 0 where
  pub part : PartData
  pub old : RegistersState
  pub new : RegistersState

-- the change from registers to others
abbrev pub change_of : PartData → Registers → Registers → Change
change_of part old new = record { part = part; old = registers_in old; new = registers_in new }

-- `taken` bytes were taken, and the history that the registers stand for became the longer one
abbrev pub EntersHistory : Change → Extension → ℕ → Type 0
EntersHistory x longer taken = ForEachHistory x.part x.old (λ kept h n. RegistersStandFor x.part kept x.new (longer n h) (n + taken))

-- the longer history without what comes after the `taken` bytes, and without a word that ends where the watchdog fired
abbrev pub up_to_stop : RegistersState → Extension → ℕ → Extension
up_to_stop new longer taken n h = until (counted_in new.values.stop (n + taken)) (longer n h)

-- where a condition holds, `taken` bytes were taken, and the history that the registers stand for became the longer one
abbrev pub EntersHistoryIf : Type 0 → Change → Extension → ℕ → Type 0
EntersHistoryIf Condition x longer taken =
    (kept : Kept) (h : History) (n : ℕ) → Condition → RegistersStandFor x.part kept x.old h n
    → RegistersStandFor x.part kept x.new (longer n h) (n + taken)

-- an access entered at a place where it may come next and up to which all bytes were taken: the history that the
-- registers stand for became the longer one
abbrev pub EntersHistoryAt : Change → Extension → Type 0
EntersHistoryAt x longer =
    (kept : Kept) (h : History) (place : ℕ) → IsNextAccess place h → RegistersStandFor x.part kept x.old h place
    → RegistersStandFor x.part kept x.new (longer place h) place

-- the longer history reads out the words of the old one, then those that are due, and no others
abbrev pub AreRead : PartData → Kept → History → History → Due → Type 0
AreRead part kept h longer due = read_out part kept longer ≡ read_out part kept h ++ words_still_due part longer due

-- where a condition holds, the longer history reads out the words of the old one, then those that are due after the
-- change, and no others
abbrev pub ReadsIf : Type 0 → Change → Extension → Type 0
ReadsIf Condition x longer =
    (kept : Kept) (h : History) (n : ℕ) → Condition → RegistersStandFor x.part kept x.old h n → AreRead x.part kept h (longer n h) x.new.values.due

-- the words that an access reads out are those due
abbrev pub AreReadBy : PartData → Kept → History → Entry → Due → Type 0
AreReadBy part kept h e due = words_read_by part kept h e.access e.place ≡ words_still_due part (e ∷ h) due

-- ---- words and runs

-- a history after words written to a register, four bytes each
abbrev pub words_entered : ℕ → List ℕ → Extension
words_entered register bytes n h = entered_all n (payload_steps register (words_of_bytes bytes)) h

-- a history after a word written to a register, which ends `count` bytes further
abbrev pub word_entered : ℕ → ℕ → ℕ → Extension
word_entered register word count n h = entry (Write register word) (n + count) ∷ h

-- a history after the step of a word in a header's place, which ends `count` bytes further
abbrev pub step_entered : Step → ℕ → Extension
step_entered step count n h = entered (n + count) step h

-- a history after a read of a register, whose header ends at this place
abbrev pub read_entered : ℕ → ℕ → Extension
read_entered register count place h = entry (Read register count) place ∷ h

-- a history after the words of a run, the first of which begins after `from` bytes
abbrev pub run_entered : Cut → ℕ → History → History
run_entered run from h = entered_all from (run_steps run) h

-- a run came, `count` bytes of which were new, `taken` bytes were taken, and the words of the run entered up to the
-- stop, if there was one
abbrev pub RunEnters : Cut → ℕ → Change → ℕ → Type 0
RunEnters run count x taken = (kept : Kept) (h : History) (from n : ℕ) → EndsWords run from n count → RegistersStandFor x.part kept x.old h n
    → RegistersStandFor x.part kept x.new (until (counted_in x.new.values.stop (n + taken)) (run_entered run from h)) (n + taken)

-- a run, whose words entered up to the stop, if there was one, reads out the words that are due after it, and no others
abbrev pub RunReads : Cut → ℕ → Change → ℕ → Type 0
RunReads run count x taken = (kept : Kept) (h : History) (from n : ℕ) → EndsWords run from n count → RegistersStandFor x.part kept x.old h n
    → AreRead x.part kept h (until (counted_in x.new.values.stop (n + taken)) (run_entered run from h)) x.new.values.due

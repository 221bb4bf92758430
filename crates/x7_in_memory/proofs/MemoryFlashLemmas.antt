-- Lemmas on what a write to a flash in memory leaves: just what a caller of any flash may know.
use Rattle.std.proofs.Common.{◌≡◌, ℕ, ◌+◌, ◌≤◌, List, [], ◌∷◌, ◌++◌, Bool, true, false, if◌then◌else◌, ◌||◌, Option, None, Some, Result, Ok, Err, OnOk, OnErr, is_err, is_some, length, refl, ap, sym, subst, ◌∙◌}
use Rattle.std.specs.Str.{bytes_eq}
use Rattle.x7_words.specs.Count.{HasRisen}
use Rattle.x7_words.specs.Flash.{replaced, IsTorn, KeepsBytes, OnlyReads, OnlyWrites, names_asked}
use Rattle.x7_in_memory.specs.Memory.{FlashInMemory, written, next_tear, flash_write_fails, known_flash, with_call, attach_answer, raised_if, after_memory_attach, after_read_at, flash_call_fails, begun, after_flash_write}
use Rattle.x7_ghost.specs.Answered.{read_call}
use Rattle.x7_words.specs.Count.{raised}
use Rattle.x7_words.specs.FlashHistory.{CallsFor, NoFlashFault, attach_call}
use Rattle.x7_words.specs.declared.flash_call.FlashCall.{FlashCall}
use Rattle.x7_words.specs.declared.flash_call.FlashCall.TheVariants.{Read, ReadFailed}
use Rattle.x7_words.specs.declared.input.SelectFault.{SelectFault}
use Rattle.x7_words.specs.declared.input.SelectFault.TheVariants.{Missing, Failed}
use Rattle.x7_words.proofs.CountLemmas.{raised_risen}
use Rattle.x7_words.proofs.FlashLemmas.{old_is_torn}
use Rattle.x7_in_memory.proofs.TornLemmas.{left_whole, length_before, written_is_torn}
use Rattle.x7_words.specs.declared.input.Failed.{Failed as FailedWrite}

-- ---- how the code comes to `after_flash_write`

-- the bytes after a write, by whether it was refused and how it was torn
abbrev bytes_by : Bool → Option ℕ → ℕ → List ℕ → List ℕ → List ℕ
bytes_by refused torn place target bytes = if refused then bytes else written torn place target bytes

-- a write that is refused
pub refused_after : (old new : FlashInMemory) (place : ℕ) (target : List ℕ) → flash_call_fails old ≡ true → new ≡ begun old → new ≡ after_flash_write old place target
refused_after old new place target fails e = e ∙ ap (λ refused. record (begun old) { bytes = bytes_by refused (next_tear old) place target old.bytes }) (sym fails)

-- a write that was begun, once what it leaves stands in its place
pub written_after : (old start : FlashInMemory) (bytes : List ℕ) (place : ℕ) (target : List ℕ) (torn : Option ℕ) → start ≡ begun old → flash_call_fails old ≡ false → torn ≡ next_tear old
    → bytes ≡ written torn place target old.bytes → record start { bytes = bytes } ≡ after_flash_write old place target
written_after old start bytes place target torn b allowed t e =
    ap (λ (x : List ℕ). record start { bytes = x }) (e ∙ ap (λ x. written x place target old.bytes) t)
    ∙ ap (λ (f : FlashInMemory). record f { bytes = written (next_tear old) place target old.bytes }) b
    ∙ ap (λ refused. record (begun old) { bytes = bytes_by refused (next_tear old) place target old.bytes }) (sym allowed)

-- ---- what a caller may know of a write

module _ (old new : FlashInMemory) (place : ℕ) (target : List ℕ) (within : place + length target ≤ length old.bytes) where
  torn_by : (refused : Bool) (torn : Option ℕ) → IsTorn place target old.bytes (bytes_by refused torn place target old.bytes)
  torn_by true torn = old_is_torn place target old.bytes
  torn_by false torn = written_is_torn torn place target old.bytes within

  whole_by : (refused : Bool) (torn : Option ℕ) → refused || is_some torn ≡ false → bytes_by refused torn place target old.bytes ≡ replaced place target old.bytes
  whole_by true torn e = absurd (cc)
  whole_by false None e = ap (λ left. replaced place left old.bytes) (left_whole _ target (length_before None place target old.bytes within))
  whole_by false (Some pattern) e = absurd (cc)

  -- what all flashes promise of a write
  pub record Promised (answer : Result (Unit {0}) FailedWrite) : Type 0 where
    pub written : OnOk answer (Some new.bytes ≡ Some (replaced place target old.bytes))
    pub torn : OnErr answer ((now : List ℕ) × (Some new.bytes ≡ Some now) × IsTorn place target old.bytes now)
    pub failed : OnErr answer (HasRisen old.write_faults new.write_faults)
    pub quiet : OnOk answer (new.write_faults ≡ old.write_faults)
    pub extent : length new.bytes ≡ length old.bytes

  module _ (call : FlashCall) (e : new ≡ with_call call (after_flash_write old place target)) where
    left_torn : IsTorn place target old.bytes new.bytes
    left_torn = subst (λ bytes. IsTorn place target old.bytes bytes) (sym (ap (λ f. f.bytes) e)) (torn_by (flash_call_fails old) (next_tear old))

    counted : (fails : Bool) → fails ≡ flash_write_fails old → new.write_faults ≡ raised_if fails old.write_faults
    counted fails a = ap (λ f. f.write_faults) e ∙ ap (λ b. raised_if b old.write_faults) (sym a)

    pub promised : (answer : Result (Unit {0}) FailedWrite) → is_err answer ≡ flash_write_fails old → Promised answer
    promised (Ok _) a = record {
      written = ap (λ f. Some f.bytes) e ∙ ap Some (whole_by (flash_call_fails old) (next_tear old) (sym a));
      torn = tt;
      failed = tt;
      quiet = counted false a;
      extent = left_torn.size;
    }
    promised (Err _) a = record {
      written = tt;
      torn = (new.bytes, refl, left_torn);
      failed = raised_risen _ _ (counted true a);
      quiet = tt;
      extent = left_torn.size;
    }

-- ---- what a call adds

-- a call is added, and the flash stays attached
called_by : (old new : FlashInMemory) (call : FlashCall) → new.history ≡ old.history ++ call ∷ [] → length new.bytes ≡ length old.bytes → new.attached ≡ old.attached → CallsFor call (known_flash old) (known_flash new)
called_by old new call c s a = λ i. record { calls = c i; size = s i; attached = a i }

-- a write is one call
pub write_called : (old new : FlashInMemory) (place : ℕ) (target : List ℕ) (call : Result (Unit {0}) FailedWrite → FlashCall) (answer : Result (Unit {0}) FailedWrite) → new ≡ with_call (call answer) (after_flash_write old place target)
    → length new.bytes ≡ length old.bytes → OnOk answer (CallsFor (call (Ok tt)) (known_flash old) (known_flash new)) × OnErr answer (CallsFor (call (Err (record {}))) (known_flash old) (known_flash new))
write_called old new place target call (Ok _) e s = (called_by old new (call (Ok tt)) (ap (λ f. f.history) e) s (ap (λ f. f.attached) e), tt)
write_called old new place target call (Err _) e s = (tt, called_by old new (call (Err (record {}))) (ap (λ f. f.history) e) s (ap (λ f. f.attached) e))

-- a read is one call
pub read_called : (old new : FlashInMemory) (place size : ℕ) (buffer : List ℕ) (answer : Result (Unit {0}) FailedWrite) → new ≡ with_call (read_call place buffer answer) (after_read_at old) → length buffer ≡ size
    → OnOk answer (CallsFor (Read place buffer) (known_flash old) (known_flash new)) × OnErr answer (CallsFor (ReadFailed place size) (known_flash old) (known_flash new))
read_called old new place size buffer (Ok _) e l = (called_by old new (Read place buffer) (ap (λ f. f.history) e) (ap (λ f. length f.bytes) e) (ap (λ f. f.attached) e), tt)
read_called old new place size buffer (Err _) e l =
    (tt, called_by old new (ReadFailed place size) (ap (λ f. f.history) e ∙ ap (λ n. old.history ++ ReadFailed place n ∷ []) l) (ap (λ f. length f.bytes) e) (ap (λ f. f.attached) e))

-- an attach is one call
pub attach_called : (old new : FlashInMemory) (name : List ℕ) (answer : Result (Unit {0}) SelectFault) → new ≡ with_call (attach_call name (length old.bytes) answer) (after_memory_attach old name) → new.history ≡ old.history ++ attach_call name (length new.bytes) answer ∷ []
attach_called old new name answer e = ap (λ f. f.history) e ∙ ap (λ n. old.history ++ attach_call name n answer ∷ []) (sym (ap (λ f. length f.bytes) e))

-- what an attach answers, by whether its call fails and whether the name is the flash's own
abbrev answer_by : Bool → Bool → Result (Unit {0}) SelectFault
answer_by fails own = if fails then Err Failed else if own then Ok tt else Err Missing

-- an attach that is Ok counts nothing
pub attach_quiet : (old new : FlashInMemory) (name : List ℕ) (call : FlashCall) (answer : Result (Unit {0}) SelectFault) → answer ≡ attach_answer old name → new ≡ with_call call (after_memory_attach old name) → OnOk answer (NoFlashFault (known_flash old) (known_flash new))
attach_quiet old new name call (Err _) a e = tt
attach_quiet old new name call (Ok _) a e =
    let is : is_err (answer_by (flash_call_fails old) (bytes_eq old.name name)) ≡ false = sym (ap is_err a) in
    let works = by (flash_call_fails old) (bytes_eq old.name name) is in
    record {
      faults = ap (λ f. f.read_faults) e ∙ ap (λ fails. raised_if fails old.read_faults) works;
      absences = ap (λ f. f.absences) e ∙ absent (flash_call_fails old) (bytes_eq old.name name) is;
    }
  where
    by : (fails own : Bool) → is_err (answer_by fails own) ≡ false → fails ≡ false
    by false own a = refl
    by true own a = absurd (cc)

    absent : (fails own : Bool) → is_err (answer_by fails own) ≡ false → (if fails || own then old.absences else raised old.absences) ≡ old.absences
    absent true own a = refl
    absent false true a = refl
    absent false false a = absurd (cc)

-- ---- attaching and reading

pub attach_stays : (old new : FlashInMemory) (name : List ℕ) (call : FlashCall) → new ≡ with_call call (after_memory_attach old name) → old.read_faults ≤ new.read_faults → old.absences ≤ new.absences
    → KeepsBytes (known_flash old) (known_flash new)
attach_stays old new name call e faults absences = record {
  bytes = ap (λ f. Some f.bytes) e;
  faults = faults;
  absences = absences;
  write_faults = ap (λ f. f.write_faults) e;
}

pub read_stays : (old new : FlashInMemory) (call : FlashCall) → new ≡ with_call call (after_read_at old) → old.read_faults ≤ new.read_faults → names_asked new.history ≡ names_asked old.history → OnlyReads (known_flash old) (known_flash new)
read_stays old new call e faults names = record {
  bytes = ap (λ f. Some f.bytes) e;
  extent = ap (λ f. length f.bytes) e;
  attached = ap (λ f. f.attached) e;
  names = names;
  faults = faults;
  absences = ap (λ f. f.absences) e;
  write_faults = ap (λ f. f.write_faults) e;
}

-- ---- writing

pub write_stays : (old new : FlashInMemory) (call : FlashCall) (place : ℕ) (target : List ℕ) → new ≡ with_call call (after_flash_write old place target) → length new.bytes ≡ length old.bytes → old.write_faults ≤ new.write_faults
    → names_asked new.history ≡ names_asked old.history → OnlyWrites (known_flash old) (known_flash new)
write_stays old new call place target e extent faults names = record {
  extent = extent;
  attached = ap (λ f. f.attached) e;
  names = names;
  faults = ap (λ f. f.read_faults) e;
  absences = ap (λ f. f.absences) e;
  write_faults = faults;
}

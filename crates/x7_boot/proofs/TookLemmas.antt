-- Lemmas on bytes of a flash that an attempt takes: what it ends by, and that nothing ended it earlier.
use Rattle.std.proofs.Common.{◌≡◌, ◌==◌, ◌+◌, ◌-◌, ◌<◌, ◌≤◌, ℕ, Bool, true, false, if◌then◌else◌, List, ◌++◌, length, take, drop, Option, None, Some, IsSome, refl, ap, sym, subst, ◌∙◌, append_assoc, arith, length-drop, length-take-le, take-append-drop, take-take}
use Rattle.x7_words.specs.Input.{taken_bytes_limit}
use Rattle.x7_packets.specs.History.{history_of}
use Rattle.x7_part.specs.Part.{PartData}
use Rattle.x7_engine.specs.declared.fed.Fed.{Fed}
use Rattle.x7_engine.specs.declared.fed.Fed.TheVariants as fed
use Rattle.x7_engine.specs.declared.fault.Fault.{Fault}
use Rattle.x7_engine.specs.declared.kept.Kept.{Kept}
use Rattle.x7_engine.specs.declared.stop.StopCause.TheVariants as stop
use Rattle.x7_engine.specs.declared.until_started.UntilStarted.{UntilStarted}
use Rattle.x7_engine.specs.declared.until_started.UntilStarted.TheVariants as until
use Rattle.x7_regs.specs.declared.boot_status.Cause.{Cause}
use Rattle.x7_engine.specs.Value.{failure_of}
use Rattle.x7_engine.specs.ReadBuffer.{IsFullBy, ReadBufState}
use Rattle.x7_engine.specs.Past.{AnswersAt, AnswersUntilAt}
use Rattle.x7_engine.specs.Standing.{CanBeGiven, DeviceState, DeviceStandsFor, NoWordDue, taken_in}
use Rattle.x7_engine.specs.State.{history_by, why_stopped, state_of, first_stop_of_bytes, taken_by}
use Rattle.x7_engine.specs.Startup.{phase_by, startup_progress}
use Rattle.x7_engine.specs.Stop.{Stopped, fault_of_stop}
use Rattle.x7_engine.specs.UntilStarted.{NoneStarted, has_started, says_started, taken_until}
use Rattle.x7_engine.proofs.UntilLemmas.{going_before}
use Rattle.x7_boot.specs.Attempt.{ending_at, ending_by, failed_by, CanTakePage, step_by, StepsTo, TookPiece, past_in_flash}
use Rattle.x7_boot.specs.declared.attempt.Ending.{Ending}
use Rattle.x7_boot.specs.declared.attempt.Ending.TheVariants.{Started}
use Rattle.x7_boot.specs.declared.attempt.AttemptStep.{AttemptStep}
use Rattle.x7_boot.specs.declared.attempt.AttemptStep.TheVariants.{GoesOn, Ends}

-- ---- what ends an attempt

chosen : (b : Bool) (x y : Option Ending) → b ≡ true → (if b then x else y) ≡ x
chosen b x y e = ap (λ (c : Bool). if c then x else y) e

other : (b : Bool) (x y : Option Ending) → b ≡ false → (if b then x else y) ≡ y
other b x y e = ap (λ (c : Bool). if c then x else y) e

pub ends_started : (part : PartData) (kept : Kept) (bytes : List ℕ) → ((state_of part kept false bytes).phase == 7) ≡ true → ending_at part kept bytes ≡ Some Started
ends_started part kept bytes e = chosen ((state_of part kept false bytes).phase == 7) (Some Started) (ending_by (why_stopped (first_stop_of_bytes part kept bytes))) e

pub ends_by_stop : (part : PartData) (kept : Kept) (bytes : List ℕ) → ((state_of part kept false bytes).phase == 7) ≡ false → ending_at part kept bytes ≡ ending_by (why_stopped (first_stop_of_bytes part kept bytes))
ends_by_stop part kept bytes e = other ((state_of part kept false bytes).phase == 7) (Some Started) (ending_by (why_stopped (first_stop_of_bytes part kept bytes))) e

-- what ends an attempt where nothing has stopped the device
pub ends_going : (part : PartData) (kept : Kept) (bytes : List ℕ) → first_stop_of_bytes part kept bytes ≡ None → ending_at part kept bytes ≡ (if phase_by part (startup_progress (history_of bytes) (length bytes)) == 7 then Some Started else None)
ends_going part kept bytes none =
    ap (λ (o : Option Stopped). if phase_by part (startup_progress (history_by o (history_of bytes)) (taken_by o (length bytes))) == 7 then Some Started else ending_by (why_stopped o)) none

-- ---- nothing earlier

none_yet : (part : PartData) (kept : Kept) (d : DeviceState) (bytes page : List ℕ) (n : ℕ) → DeviceStandsFor part kept false d (bytes ++ take n page) → n ≤ length page → NoneStarted part kept bytes page n
    → (k : ℕ) → k < n → ending_at part kept (bytes ++ take k page) ≡ None
none_yet part kept d bytes page n s within first k l =
    let rest : List ℕ = drop k (take n page) in
    let prefix : take n page ≡ take k page ++ rest = sym (take-append-drop k (take n page)) ∙ ap (λ (x : List ℕ). x ++ rest) (take-take k n page (omega (arith, l))) in
    let some : length rest ≡ n - k = length-drop k (take n page) ∙ ap (λ (x : ℕ). x - k) (length-take-le n page within) in
    let joined : bytes ++ take n page ≡ (bytes ++ take k page) ++ rest = ap (λ (x : List ℕ). bytes ++ x) prefix ∙ sym (append_assoc bytes (take k page) rest) in
    let going : first_stop_of_bytes part kept (bytes ++ take k page) ≡ None = going_before part kept false d (bytes ++ take k page) rest (subst (DeviceStandsFor part kept false d) joined s) (omega (arith, some, l)) in
    ends_by_stop part kept (bytes ++ take k page) (first k l) ∙ ap (λ (o : Option Stopped). ending_by (why_stopped o)) going

-- ---- what a feed does

-- no word is due where the buffer drops each
none_due : (part : PartData) (kept : Kept) (d : DeviceState) (bytes : List ℕ) (read : ReadBufState) (answer : Fed) → read.most ≡ None → AnswersAt (past_in_flash part kept bytes) d read answer → NoWordDue d
none_due part kept d bytes read fed.All dropping a = a.1
none_due part kept d bytes read (fed.Stopped n) dropping a = a.2
none_due part kept d bytes read (fed.Iprog n) dropping a = a.1
none_due part kept d bytes read (fed.ReadFull n) dropping a = absurd (subst (λ (m : Option ℕ). IsFullBy m (length read.words)) dropping a.2)

failed_at : (f : Fault) (cause : Option Cause) → cause ≡ failure_of (Some f) false → ending_by (Some (stop.Fault f)) ≡ failed_by cause
failed_at f cause e = ap failed_by (sym e)

-- what a feed does to an attempt in which startup hasn't ended by then
steps_to : (part : PartData) (kept : Kept) (d : DeviceState) (bytes : List ℕ) (read : ReadBufState) (answer : Fed) (cause : Option Cause) → read.most ≡ None
    → AnswersAt (past_in_flash part kept bytes) d read answer → has_started part kept bytes ≡ false → cause ≡ failure_of (fault_of_stop (why_stopped (first_stop_of_bytes part kept bytes))) false
    → StepsTo part kept bytes (step_by answer cause)
steps_to part kept d bytes read fed.All cause dropping a e f = (a.0, ends_by_stop part kept bytes e ∙ ap (λ (o : Option Stopped). ending_by (why_stopped o)) a.0)
steps_to part kept d bytes read (fed.Iprog n) cause dropping a e f = ends_by_stop part kept bytes e ∙ ap (λ (o : Option Stopped). ending_by (why_stopped o)) a.0
steps_to part kept d bytes read (fed.ReadFull n) cause dropping a e f = absurd (subst (λ (m : Option ℕ). IsFullBy m (length read.words)) dropping a.2)
steps_to part kept d bytes read (fed.Stopped n) (Some cause) dropping a e f = ends_by_stop part kept bytes e ∙ ap (λ (o : Option Stopped). ending_by (why_stopped o)) a.1 ∙ failed_at a.0 (Some cause) (f ∙ ap (λ (o : Option Stopped). failure_of (fault_of_stop (why_stopped o)) false) a.1)
steps_to part kept d bytes read (fed.Stopped n) None dropping a e f =
    (subst (λ (o : Option Stopped). IsSome o) (sym a.1) refl, ends_by_stop part kept bytes e ∙ ap (λ (o : Option Stopped). ending_by (why_stopped o)) a.1 ∙ failed_at a.0 None (f ∙ ap (λ (o : Option Stopped). failure_of (fault_of_stop (why_stopped o)) false) a.1))

-- an attempt goes on only where all was taken
goes_all : (part : PartData) (kept : Kept) (d : DeviceState) (bytes : List ℕ) (read : ReadBufState) (answer : Fed) (cause : Option Cause) (length : ℕ) → read.most ≡ None → AnswersAt (past_in_flash part kept bytes) d read answer → step_by answer cause ≡ GoesOn
    → taken_in length answer ≡ length
goes_all part kept d bytes read fed.All cause n dropping a e = refl
goes_all part kept d bytes read (fed.Iprog k) cause n dropping a e = cc
goes_all part kept d bytes read (fed.Stopped k) (Some cause) n dropping a e = cc
goes_all part kept d bytes read (fed.Stopped k) None n dropping a e = cc
goes_all part kept d bytes read (fed.ReadFull k) cause n dropping a e = absurd (subst (λ (m : Option ℕ). IsFullBy m (length read.words)) dropping a.2)

-- ---- a page

-- what a feed up to the end of startup does to an attempt
abbrev pub step_until : UntilStarted → Option Cause → AttemptStep
step_until (until.Started n) cause = Ends Started
step_until (until.Fed answer) cause = step_by answer cause

due_until : (part : PartData) (kept : Kept) (d : DeviceState) (bytes : List ℕ) (read : ReadBufState) (answer : UntilStarted) → read.most ≡ None → AnswersUntilAt (past_in_flash part kept bytes) d read answer → NoWordDue d
due_until part kept d bytes read (until.Started n) dropping a = a
due_until part kept d bytes read (until.Fed answer) dropping a = none_due part kept d bytes read answer dropping a

steps_until : (part : PartData) (kept : Kept) (d : DeviceState) (bytes : List ℕ) (read : ReadBufState) (answer : UntilStarted) (cause : Option Cause) → read.most ≡ None → AnswersUntilAt (past_in_flash part kept bytes) d read answer
    → says_started answer ≡ has_started part kept bytes → cause ≡ failure_of (fault_of_stop (why_stopped (first_stop_of_bytes part kept bytes))) false → StepsTo part kept bytes (step_until answer cause)
steps_until part kept d bytes read (until.Started n) cause dropping a e f = ends_started part kept bytes (sym e)
steps_until part kept d bytes read (until.Fed answer) cause dropping a e f = steps_to part kept d bytes read answer cause dropping a (sym e) f

all_until : (part : PartData) (kept : Kept) (d : DeviceState) (bytes : List ℕ) (read : ReadBufState) (answer : UntilStarted) (cause : Option Cause) (length : ℕ) → read.most ≡ None → AnswersUntilAt (past_in_flash part kept bytes) d read answer
    → step_until answer cause ≡ GoesOn → taken_until length answer ≡ length
all_until part kept d bytes read (until.Started n) cause length dropping a e = absurd (cc)
all_until part kept d bytes read (until.Fed answer) cause length dropping a e = goes_all part kept d bytes read answer cause length dropping a e

-- a device took what it answers
pub page_took : (part : PartData) (kept : Kept) (d : DeviceState) (bytes page : List ℕ) (read : ReadBufState) (answer : UntilStarted) (cause : Option Cause)
    → (let n : ℕ = taken_until (length page) answer in let all : List ℕ = bytes ++ take n page in
    n ≤ length page → DeviceStandsFor part kept false d all → NoneStarted part kept bytes page n → read.most ≡ None → AnswersUntilAt (past_in_flash part kept all) d read answer
    → (NoWordDue d → says_started answer ≡ has_started part kept all) → cause ≡ failure_of (fault_of_stop (why_stopped (first_stop_of_bytes part kept all))) false → TookPiece (past_in_flash part kept bytes) d page (step_until answer cause))
page_took part kept d bytes page read answer cause within s first dropping a started f =
    let n : ℕ = taken_until (length page) answer in
    let due : NoWordDue d = due_until part kept d (bytes ++ take n page) read answer dropping a in
    record {
      count = n;
      within = within;
      all = all_until part kept d (bytes ++ take n page) read answer cause (length page) dropping a;
      stands = s;
      due = due;
      steps = steps_until part kept d (bytes ++ take n page) read answer cause dropping a (started due) f;
      none = none_yet part kept d bytes page n s within first;
    }

-- a device that nothing has stopped is ready for no more than was said
pub ready_fits : (d : DeviceState) (n : ℕ) → CanTakePage d n → CanBeGiven d n
ready_fits d n r = let t : d.taken ≡ length r.bytes = r.stands.taken_is in let f : length r.bytes + n ≤ taken_bytes_limit = r.fits in omega (arith, t, f)

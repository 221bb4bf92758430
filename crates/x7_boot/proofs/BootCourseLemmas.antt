-- The course of a boot: a chain of attempts that leads to an end is the only one, and
-- how an attempt is reported and followed.
use Rattle.std.proofs.Common.{◌≡◌, ◌==◌, ◌||◌, inl, inr, ℕ, suc, Bool, true, false, if◌then◌else◌, Option, None, Some, List, ◌∷◌, drop, take, length, map, reverse, refl, ap, sym, ◌∙◌, arith}
use Rattle.std.proofs.Math.Seq.{take-length, take_all}
use Rattle.std.proofs.lemmas.Bool.{cases_lt, or_from, or_right}
use Rattle.x7_part.specs.Part.{PartData}
use Rattle.x7_regs.specs.declared.boot_status.Cause.{Cause}
use Rattle.x7_regs.specs.declared.boot_status.Cause.TheVariants.{Wrap}
use Rattle.x7_regs.specs.declared.boot_status.Kind.{Kind}
use Rattle.x7_regs.specs.declared.boot_status.Kind.TheVariants.{Fallback}
use Rattle.x7_regs.specs.declared.register.Reg.TheVariants.{Ctl0}
use Rattle.x7_engine.specs.Kept.{is_fallback}
use Rattle.x7_engine.specs.State.{kept_after, state_of, first_stop_of_bytes, taken_of, why_stopped}
use Rattle.x7_engine.specs.Stop.{fault_of_stop}
use Rattle.x7_engine.specs.Value.{failure_of}
use Rattle.x7_engine.specs.declared.fault.Fault.{Fault}
use Rattle.x7_engine.specs.declared.fault.Fault.TheVariants as fault
use Rattle.x7_engine.specs.declared.kept.Kept.{Kept}
use Rattle.x7_engine.specs.declared.stop.StopCause.{StopCause}
use Rattle.x7_engine.specs.declared.stop.StopCause.TheVariants as stop
use Rattle.x7_boot.specs.Attempt.{IsFlashAttempt, NoneBefore, BootAttempt, ending_at, ending_by, failed_by}
use Rattle.x7_regs.specs.Control.{forbids_fallback}
use Rattle.x7_boot.specs.Boot.{BootedState, IsBoot, LeadsToEnd, end_value, next_by, tried}
use Rattle.x7_boot.specs.BootCourse.{BootCourse, IsCourse, course_along, course_of}
use Rattle.x7_boot.specs.declared.attempt.Ending.{Ending}
use Rattle.x7_boot.specs.declared.attempt.Ending.TheVariants as ending
use Rattle.x7_boot.specs.declared.boots.BootEnd.{BootEnd}
use Rattle.x7_boot.specs.declared.boots.BootEnd.TheVariants as boot_end
use Rattle.x7_boot.specs.declared.boots.Tried.{Tried}
use Rattle.x7_boot.specs.declared.next.Next.TheVariants.{Again, Ends}
use Rattle.x7_boot.proofs.OneBootLemmas.{first_is, one_chain}
use Rattle.x7_boot.proofs.FlashAttemptLemmas.{no_cause}

-- ---- the course of a boot

pub boot_course : (part : PartData) (flash : List ℕ) (b : BootedState) → (boot : IsBoot part flash b) → IsCourse part flash (course_of b boot.last)
boot_course part flash b boot = record { older = boot.older; leads = boot.leads; attempts_are = boot.attempts }

-- where attempts lead to an end, a course is along these
pub along : (part : PartData) (flash : List ℕ) (c : BootCourse) (last : BootAttempt) (older : List BootAttempt) (end : BootEnd) → IsCourse part flash c → LeadsToEnd part flash (last ∷ older) end → c ≡ course_along last older end
along part flash c last older end course leads =
    let same : (c.last ∷ course.older ≡ last ∷ older) × (c.end ≡ end) = one_chain part flash (c.last ∷ course.older) (last ∷ older) c.end end course.leads leads in
    ap (λ (l : List Tried). record { attempts = l; end = c.end; last = c.last }) (course.attempts_are ∙ ap (λ (l : List BootAttempt). reverse (map tried l)) same.0)
    ∙ ap (λ (e : BootEnd). record { attempts = reverse (map tried (last ∷ older)); end = e; last = c.last }) same.1
    ∙ ap (λ (t : BootAttempt). record { attempts = reverse (map tried (last ∷ older)); end = end; last = t }) (first_is c.last last course.older older same.0)

-- how an attempt is reported
pub tried_is : (t : BootAttempt) (kind : Kind) (address : ℕ) (e : Ending) → t.kept.kind ≡ kind → t.address ≡ address → t.ending ≡ e → tried t ≡ record { kind = kind; address = address; ending = e }
tried_is t kind address e k a ends =
    ap (λ (x : Kind). record { kind = x; address = t.address; ending = t.ending }) k
    ∙ ap (λ (x : ℕ). record { kind = kind; address = x; ending = t.ending }) a
    ∙ ap (λ (x : Ending). record { kind = kind; address = address; ending = x }) ends

-- ---- why an attempt failed, and what follows

-- what an attempt failed by
failed_is : (o : Option Cause) (cause : Cause) → failed_by o ≡ Some (ending.Failed cause) → o ≡ Some cause
failed_is None cause e = absurd (cc)
failed_is (Some c) cause e = cc

cause_by : (o : Option StopCause) (cause : Cause) → ending_by o ≡ Some (ending.Failed cause) → failure_of (fault_of_stop o) false ≡ Some cause
cause_by None cause e = failed_is None cause e
cause_by (Some stop.Iprog) cause e = absurd (cc)
cause_by (Some (stop.Fault f)) cause e = failed_is (failure_of (Some f) false) cause e

not_started : (b : Bool) (o : Option Ending) (cause : Cause) → (if b then Some ending.Started else o) ≡ Some (ending.Failed cause) → o ≡ Some (ending.Failed cause)
not_started true o cause e = absurd (cc)
not_started false o cause e = e

not_ended : (b : Bool) (o : Option Ending) → (if b then Some ending.Started else o) ≡ None → o ≡ None
not_ended true o e = absurd (cc)
not_ended false o e = e

-- a fault that ends no attempt, or none, where the flash has ended
wrapped_by : (o : Option Fault) → failure_of o false ≡ None → failure_of o true ≡ Some Wrap
wrapped_by None e = refl
wrapped_by (Some (fault.Packet w)) e = refl
wrapped_by (Some (fault.Id want got)) e = absurd (cc)
wrapped_by (Some (fault.Crc want got)) e = absurd (cc)
wrapped_by (Some (fault.Address far)) e = refl
wrapped_by (Some fault.Overrun) e = refl
wrapped_by (Some fault.Multi) e = refl
wrapped_by (Some fault.Encrypted) e = refl
wrapped_by (Some fault.Watchdog) e = absurd (cc)

some_failed : (c d : Cause) → ending.Failed c ≡ ending.Failed d → Some c ≡ Some d
some_failed c d e = cc

-- an attempt that nothing ends up to the flash's end is ended at no number of bytes
never_ends : (part : PartData) (kept : Kept) (from : List ℕ) (n : ℕ) → NoneBefore part kept from (suc (length from)) → ending_at part kept (take n from) ≡ None
never_ends part kept from n none = elim (cases_lt n (suc (length from))) [
  | inl l ↦ none n l
  | inr l ↦ (let same : take n from ≡ take (length from) from = take_all n from (omega (arith, l)) ∙ sym (take-length from) in
      ap (ending_at part kept) same ∙ none (length from) (omega arith))
]

pub cause_is : (part : PartData) (flash : List ℕ) (t : BootAttempt) (cause : Cause) → IsFlashAttempt part flash t → t.ending ≡ ending.Failed cause → failure_of (fault_of_stop (why_stopped (first_stop_of_bytes part t.kept t.bytes))) t.wrapped ≡ Some cause
cause_is part flash t cause (inl first) e =
    let why : Option StopCause = why_stopped (first_stop_of_bytes part t.kept t.bytes) in
    let ends : ending_by why ≡ Some (ending.Failed cause) = not_started ((state_of part t.kept false t.bytes).phase == 7) (ending_by why) cause (first.ends ∙ ap Some e) in
    ap (failure_of (fault_of_stop why)) first.in_flash ∙ cause_by why cause ends
cause_is part flash t cause (inr out) e =
    let from : List ℕ = drop t.address flash in
    let why : Option StopCause = why_stopped (first_stop_of_bytes part t.kept t.bytes) in
    let none : ending_at part t.kept t.bytes ≡ None = ap (ending_at part t.kept) out.taken ∙ never_ends part t.kept from (taken_of part t.kept from) out.none in
    let not_ended : ending_by why ≡ None = not_ended ((state_of part t.kept false t.bytes).phase == 7) (ending_by why) none in
    ap (failure_of (fault_of_stop why)) out.past_end ∙ wrapped_by (fault_of_stop why) (no_cause why not_ended) ∙ some_failed Wrap cause (sym out.failed ∙ e)

-- a fallback follows an attempt that failed, where that is none itself and CTL0 allows it; else the boot stops
pub fallback_next : (part : PartData) (number : ℕ) (t : BootAttempt) (cause : Cause) → is_fallback t.kept.kind ≡ false → forbids_fallback (end_value part t Ctl0) ≡ false
    → next_by part number t (ending.Failed cause) ≡ Again (kept_after part t.kept t.wrapped t.bytes Fallback) 0
fallback_next part number t cause first allowed =
    ap (λ (b : Bool). if b then Ends boot_end.Stopped else Again (kept_after part t.kept t.wrapped t.bytes Fallback) 0) (or_from (is_fallback t.kept.kind) (forbids_fallback (end_value part t Ctl0)) first allowed)

-- a fallback that failed is the last attempt
pub last_fails : (part : PartData) (number : ℕ) (t : BootAttempt) (cause : Cause) → is_fallback t.kept.kind ≡ true → next_by part number t (ending.Failed cause) ≡ Ends boot_end.Stopped
last_fails part number t cause last =
    ap (λ (b : Bool). if b || forbids_fallback (end_value part t Ctl0) then Ends boot_end.Stopped else Again (kept_after part t.kept t.wrapped t.bytes Fallback) 0) last

pub stops_next : (part : PartData) (number : ℕ) (t : BootAttempt) (cause : Cause) → forbids_fallback (end_value part t Ctl0) ≡ true → next_by part number t (ending.Failed cause) ≡ Ends boot_end.Stopped
stops_next part number t cause forbidden =
    ap (λ (b : Bool). if b then Ends boot_end.Stopped else Again (kept_after part t.kept t.wrapped t.bytes Fallback) 0) (or_right (is_fallback t.kept.kind) (forbids_fallback (end_value part t Ctl0)) forbidden)

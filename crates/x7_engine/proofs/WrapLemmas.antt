-- The end of the flash shows in BOOTSTS.
use Rattle.std.proofs.Common.{◌≡◌, ◌+◌, ◌^◌, ◌&&◌, ℕ, Bool, true, false, List, Option, None, Some, refl, ap, sym, ◌∙◌, arith}
use Rattle.x7_part.specs.Part.{PartData}
use Rattle.x7_regs.specs.BootStatus.{attempt_bits_by, before_bits_of, boot_status_of, boot_word_by}
use Rattle.x7_regs.specs.declared.boot_status.Attempt.{Attempt}
use Rattle.x7_regs.specs.declared.boot_status.Cause.{Cause}
use Rattle.x7_regs.specs.declared.boot_status.Cause.TheVariants as cause
use Rattle.x7_regs.specs.declared.boot_status.Kind.{Kind}
use Rattle.x7_regs.specs.declared.boot_status.Kind.TheVariants.{Bench, Power, Iprog, Fallback}
use Rattle.x7_engine.specs.declared.fault.Fault.{Fault}
use Rattle.x7_engine.specs.declared.fault.Fault.TheVariants as fault
use Rattle.x7_engine.specs.declared.kept.Kept.{Kept}
use Rattle.x7_engine.specs.Kept.{is_fallback}
use Rattle.x7_engine.specs.Registers.{wrote_iprog}
use Rattle.x7_engine.specs.Shown.{with_values, with_bootsts}
use Rattle.x7_engine.specs.State.{bootsts_of, history_taken, why_stopped, state_of, first_stop_of_bytes}
use Rattle.x7_engine.specs.Stop.{fault_of_stop}
use Rattle.x7_engine.specs.Value.{failure_of}

cause_is : (f : Option Fault) → failure_of f false ≡ None → failure_of f true ≡ Some cause.Wrap
cause_is None e = refl
cause_is (Some (fault.Packet w)) e = refl
cause_is (Some (fault.Id want got)) e = absurd (cc e)
cause_is (Some (fault.Crc want got)) e = absurd (cc e)
cause_is (Some (fault.Address far)) e = refl
cause_is (Some fault.Overrun) e = refl
cause_is (Some fault.Multi) e = refl
cause_is (Some fault.Encrypted) e = refl
cause_is (Some fault.Watchdog) e = absurd (cc e)

one_bit : (kind : Kind) (ignored : Bool) (before : ℕ) → (kind ≡ Bench → ⊥) → boot_word_by kind (attempt_bits_by kind (Some cause.Wrap) ignored) before ≡ boot_word_by kind (attempt_bits_by kind None ignored) before + 2 ^ 6
one_bit Bench ignored before boots = absurd (boots refl)
one_bit Power ignored before boots = omega arith
one_bit Iprog ignored before boots = omega arith
one_bit Fallback ignored before boots = omega arith

abbrev attempt_with : Kind → Option Cause → Bool → Attempt
attempt_with kind cause ignored = record { kind = kind; cause = cause; ignored = ignored }

shows : (kind : Kind) (f : Option Fault) (ignored : Bool) (before : Option Attempt) → (kind ≡ Bench → ⊥) → failure_of f false ≡ None
    → boot_status_of (attempt_with kind (failure_of f true) ignored) before ≡ boot_status_of (attempt_with kind (failure_of f false) ignored) before + 2 ^ 6
unfolding boot_status_of
shows kind f ignored before boots e =
    ap (λ (c : Option Cause). boot_word_by kind (attempt_bits_by kind c ignored) (before_bits_of before)) (cause_is f e)
    ∙ one_bit kind ignored (before_bits_of before) boots
    ∙ ap (λ (c : Option Cause). boot_word_by kind (attempt_bits_by kind c ignored) (before_bits_of before) + 2 ^ 6) (sym e)

pub wrap_alone : (part : PartData) (kept : Kept) (bytes : List ℕ) → state_of part kept true bytes ≡ with_bootsts (bootsts_of part kept true bytes) (state_of part kept false bytes)
unfolding with_values
wrap_alone part kept bytes = refl

pub wrap_bit : (part : PartData) (kept : Kept) (bytes : List ℕ) → (kept.kind ≡ Bench → ⊥) → failure_of (fault_of_stop (why_stopped (first_stop_of_bytes part kept bytes))) false ≡ None
    → bootsts_of part kept true bytes ≡ bootsts_of part kept false bytes + 2 ^ 6
wrap_bit part kept bytes boots e = shows kept.kind (fault_of_stop (why_stopped (first_stop_of_bytes part kept bytes))) (is_fallback kept.kind && wrote_iprog (history_taken part kept bytes)) kept.before boots e

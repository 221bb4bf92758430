-- Lemmas on what a boot asks of a device.
use Rattle.std.proofs.Common.{◌≡◌, ◌==◌, ℕ, zero, suc, Bool, false, List, [], ◌∷◌, ◌++◌, length, replicate, Option, None, Some, refl, ap, sym, ◌∙◌}
use Rattle.x7_part.specs.Part.{PartData}
use Rattle.x7_packets.specs.History.{History}
use Rattle.x7_regs.specs.declared.boot_status.Kind.TheVariants.{Bench}
use Rattle.x7_engine.specs.declared.kept.Kept.{Kept}
use Rattle.x7_engine.specs.declared.stop.StopCause.{StopCause}
use Rattle.x7_engine.specs.declared.stop.StopCause.TheVariants as stop
use Rattle.x7_engine.specs.declared.due.Due.{Due}
use Rattle.x7_engine.specs.declared.due.Due.TheVariants as due
use Rattle.x7_engine.specs.Standing.{DeviceState, DeviceStandsFor, MayWrap, NoWordDue, due_count, words_still_due}
use Rattle.x7_engine.specs.Startup.{phase_of}
use Rattle.x7_engine.specs.State.{history_taken, why_stopped, state_of, first_stop_of_bytes}
use Rattle.x7_engine.specs.Stop.{fault_of_stop}
use Rattle.x7_engine.specs.Value.{failure_of}
use Rattle.x7_engine.proofs.ClockLemmas.{phase_by_clock}
use Rattle.x7_engine.proofs.StateLemmas.{why_is, taken_is}

pub may_wrap : (part : PartData) (kept : Kept) (wrapped : Bool) (d : DeviceState) (bytes : List ℕ) → DeviceStandsFor part kept wrapped d bytes → (kept.kind ≡ Bench → ⊥)
    → ((state_of part kept wrapped bytes).phase == 7) ≡ false → failure_of (fault_of_stop (why_stopped (first_stop_of_bytes part kept bytes))) false ≡ None
    → (why_stopped (first_stop_of_bytes part kept bytes) ≡ Some stop.Iprog → ⊥) → NoWordDue d → MayWrap d
may_wrap part kept wrapped d bytes s boots not_started not_failed not_left none =
    let h : History = history_taken part kept bytes in
    let phase : d.registers.values.clock.startup.phase ≡ phase_of part h (length bytes) = phase_by_clock part h (length bytes) d.registers.values.clock.startup.phase s.registers_are.clock.startup.stores.phase_is in
    let all : phase_of part h (length bytes) ≡ (state_of part kept wrapped bytes).phase = ap (phase_of part h) (sym (taken_is part kept wrapped d bytes s)) in
    let why : why_stopped (first_stop_of_bytes part kept bytes) ≡ d.registers.values.stop = why_is part kept wrapped d bytes s in
    record {
      boots = λ e. boots (sym s.registers_are.kind ∙ e);
      not_started = ap (λ (p : ℕ). p == 7) (phase ∙ all) ∙ not_started;
      not_failed = ap (λ (o : Option StopCause). failure_of (fault_of_stop o) false) (sym why) ∙ not_failed;
      not_left = λ e. not_left (why ∙ e);
      no_word_due = none;
    }

nothing_more : {A : Type 0} (xs ys : List A) (y : A) → [] ≡ xs ++ y ∷ ys → ⊥
nothing_more [] ys y e = cc
nothing_more (x ∷ xs) ys y e = cc

few : (part : PartData) (h : History) (known : List ℕ) (words : Due) → [] ≡ known ++ words_still_due part h words → due_count words ≡ 0
few part h known due.Nothing e = refl
few part h known (due.Same word zero) e = refl
few part h known (due.Same word (suc n)) e = absurd (nothing_more known (replicate n word) word e)
few part h known (due.Frames zero) e = refl
few part h known (due.Frames (suc n)) e = absurd (nothing_more known _ _ e)

pub none_due_at_first : (part : PartData) (kept : Kept) (wrapped : Bool) (d : DeviceState) → DeviceStandsFor part kept wrapped d [] → NoWordDue d
none_due_at_first part kept wrapped d s = few part (history_taken part kept []) s.due_are.given d.registers.values.due s.due_are.all

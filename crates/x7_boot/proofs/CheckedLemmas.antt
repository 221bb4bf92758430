-- An attempt that started made its checks.
use Rattle.std.proofs.Common.{◌≡◌, ◌==◌, ◌+◌, ◌<◌, inl, inr, ℕ, Bool, true, false, List, ◌∷◌, drop, take, length, Option, None, Some, refl, ap, sym, subst, ◌∙◌, take-append-drop}
use Rattle.std.specs.Prelude.{if◌then◌else◌, nat_le, ◌||◌}
use Rattle.x7_words.specs.Word.{AreBytes}
use Rattle.x7_words.proofs.ListLemmas.{all_back, all_prefix, all_take}
use Rattle.x7_packets.specs.History.{Write}
use Rattle.x7_part.specs.Part.{PartData}
use Rattle.x7_regs.specs.declared.register.Reg.TheVariants.{Ctl0}
use Rattle.x7_engine.specs.Kept.{is_fallback}
use Rattle.x7_engine.specs.State.{why_stopped, state_of, first_stop_of_bytes, taken_of}
use Rattle.x7_engine.specs.Value.{failure_of}
use Rattle.x7_engine.specs.declared.kept.Kept.{Kept}
use Rattle.x7_engine.specs.declared.stop.StopCause.{StopCause}
use Rattle.x7_engine.specs.declared.stop.StopCause.TheVariants as stop
use Rattle.x7_engine.proofs.CheckedLemmas.{check_equals, idcode_matches, none_before, phase_started}
use Rattle.x7_regs.specs.declared.boot_status.Cause.{Cause}
use Rattle.x7_boot.specs.Attempt.{IsFlashAttempt, BootAttempt, ending_at, ending_by, failed_by}
use Rattle.x7_regs.specs.Control.{forbids_fallback}
use Rattle.x7_boot.specs.Boot.{LeadsToEnd, end_state, end_value, next_by}
use Rattle.x7_boot.specs.Checked.{HasChecked}
use Rattle.x7_boot.specs.declared.attempt.Ending.{Ending}
use Rattle.x7_boot.specs.declared.attempt.Ending.TheVariants as ending
use Rattle.x7_boot.specs.declared.boots.BootEnd.{BootEnd}
use Rattle.x7_boot.specs.declared.boots.BootEnd.TheVariants as boot_end
use Rattle.x7_boot.specs.declared.next.Next.TheVariants.{Again, Ends}
use Rattle.x7_boot.proofs.StartLemmas.{seven_late}

-- a stop is no start
no_cause_starts : (c : Option Cause) → failed_by c ≡ Some ending.Started → ⊥
no_cause_starts None e = absurd (cc)
no_cause_starts (Some c) e = absurd (cc)

no_stop_starts : (o : Option StopCause) → ending_by o ≡ Some ending.Started → ⊥
no_stop_starts None e = absurd (cc)
no_stop_starts (Some stop.Iprog) e = absurd (cc)
no_stop_starts (Some (stop.Fault f)) e = no_cause_starts (failure_of (Some f) false) e

pub starts_by : (b : Bool) (o : Option StopCause) → (if b then Some ending.Started else ending_by o) ≡ Some ending.Started → b ≡ true
starts_by true o e = refl
starts_by false o e = absurd (no_stop_starts o e)

started_late : (part : PartData) (kept : Kept) (bytes : List ℕ) → ending_at part kept bytes ≡ Some ending.Started → 0 < (state_of part kept false bytes).phase
started_late part kept bytes e = seven_late (state_of part kept false bytes).phase (starts_by ((state_of part kept false bytes).phase == 7) (why_stopped (first_stop_of_bytes part kept bytes)) e)

pub checked : (part : PartData) (kept : Kept) (wrapped : Bool) (bytes : List ℕ) → AreBytes bytes → 0 < (state_of part kept wrapped bytes).phase → HasChecked part kept bytes
checked part kept wrapped bytes fits late = record {
  started = phase_started part kept wrapped bytes fits late;
  checks = λ w place older s l. check_equals part kept older w (none_before part kept bytes (Write 0 w) place older fits s l);
  idcodes = λ w place older s l. idcode_matches part kept older w (none_before part kept bytes (Write 12 w) place older fits s l);
}

-- the bytes of an attempt are those of the flash
attempt_fits : (part : PartData) (flash : List ℕ) (t : BootAttempt) → AreBytes flash → IsFlashAttempt part flash t → AreBytes t.bytes
attempt_fits part flash t fits is = by is
  where
    after : AreBytes (drop t.address flash)
    after = all_back (λ b. b < 256) (take t.address flash) (drop t.address flash) (subst AreBytes (sym (take-append-drop t.address flash)) fits)

    by : IsFlashAttempt part flash t → AreBytes t.bytes
    by (inl first) = all_prefix (λ b. b < 256) t.bytes first.rest (subst AreBytes first.taken after)
    by (inr out) = subst AreBytes (sym out.taken) (all_take (λ b. b < 256) (taken_of part t.kept (drop t.address flash)) (drop t.address flash) after)

pub attempt_checked : (part : PartData) (flash : List ℕ) (t : BootAttempt) → AreBytes flash → IsFlashAttempt part flash t → 0 < (end_state part t).phase → HasChecked part t.kept t.bytes
attempt_checked part flash t fits is late = checked part t.kept t.wrapped t.bytes (attempt_fits part flash t fits is) late

pub start_checked : (part : PartData) (flash : List ℕ) (t : BootAttempt) → AreBytes flash → IsFlashAttempt part flash t → t.ending ≡ ending.Started → HasChecked part t.kept t.bytes
start_checked part flash t fits (inl first) is =
    checked part t.kept false t.bytes (attempt_fits part flash t fits (inl first)) (started_late part t.kept t.bytes (first.ends ∙ ap Some is))
start_checked part flash t fits (inr out) is = let failed : t.ending ≡ ending.Failed _ = out.failed in absurd (cc)

-- ---- the last attempt of a boot that started

iprog_ends : (b : Bool) (kept : Kept) (address : ℕ) → Ends boot_end.Started ≡ (if b then Ends boot_end.Loop else Again kept address) → ⊥
iprog_ends true kept address e = absurd (cc)
iprog_ends false kept address e = absurd (cc)

failed_ends : (b : Bool) (kept : Kept) (address : ℕ) → Ends boot_end.Started ≡ (if b then Ends boot_end.Stopped else Again kept address) → ⊥
failed_ends true kept address e = absurd (cc)
failed_ends false kept address e = absurd (cc)

started_by : (part : PartData) (number : ℕ) (t : BootAttempt) (e : Ending) → Ends boot_end.Started ≡ next_by part number t e → e ≡ ending.Started
started_by part number t ending.Started h = refl
started_by part number t ending.Iprog h = absurd (iprog_ends (nat_le 16 number) _ _ h)
started_by part number t (ending.Failed cause) h = absurd (failed_ends (is_fallback t.kept.kind || forbids_fallback (end_value part t Ctl0)) _ _ h)

pub last_checked : (part : PartData) (flash : List ℕ) (last : BootAttempt) (older : List BootAttempt) (end : BootEnd) → AreBytes flash → LeadsToEnd part flash (last ∷ older) end → end ≡ boot_end.Started → HasChecked part last.kept last.bytes
last_checked part flash last older end fits leads is =
    start_checked part flash last fits leads.1 (started_by part (length older + 1) last last.ending (sym (ap Ends is) ∙ leads.2))

-- Lemmas on specs/Rest: a device at rest stays so over bytes without a sync word.
use Rattle.std.proofs.Common.{◌≡◌, ◌==◌, ◌&&◌, ◌+◌, ◌<◌, ◌≤◌, ◌⊎◌, inl, inr, ℕ, Bool, true, false, not, Option, None, List, [], ◌++◌, length, length-append, refl, ap, sym, subst, ◌∙◌, append_assoc, arith}
use Rattle.std.proofs.lemmas.Bool.{and_left}
use Rattle.std.specs.List.{flat_map}
use Rattle.std.specs.Option.{option_or}
use Rattle.x7_words.specs.Word.{AreBytes}
use Rattle.x7_words.proofs.ListLemmas.{all_prefix}
use Rattle.x7_packets.specs.ByHand.{reading_of}
use Rattle.x7_packets.specs.History.{History, history_of}
use Rattle.x7_packets.specs.Reading.{EndedSession, IsReading, Place, Searching, is_synced, session_bytes}
use Rattle.x7_packets.proofs.ByHandLemmas.{reading_is, reading_is_found}
use Rattle.x7_packets.proofs.GrowthLemmas.{placed_of}
use Rattle.x7_packets.proofs.HistoryLemmas.{history_is}
use Rattle.x7_part.specs.Part.{PartData}
use Rattle.x7_startup.specs.Startup.{NotBegun, progress_of}
use Rattle.x7_startup.specs.Watchdog.{cfg_mon_of, is_on, timer_value_of}
use Rattle.x7_startup.proofs.CallLemmas.{further, progress_bytes}
use Rattle.x7_engine.specs.declared.kept.Kept.{Kept}
use Rattle.x7_engine.specs.Clock.{newest_place}
use Rattle.x7_engine.specs.Kept.{is_fallback, on_the_bench}
use Rattle.x7_flow.specs.Controls.{ctl0_held}
use Rattle.x7_engine.specs.Registers.{is_pending}
use Rattle.x7_engine.specs.Rest.{AtRest, LastGapGoesOn}
use Rattle.x7_engine.specs.Startup.{startup_ended, phase_of, startup_calls, startup_progress}
use Rattle.x7_regs.specs.Control.{forbids_reading}
use Rattle.x7_engine.specs.Stop.{Stopped, first_stop_of_history, stop_at_firing}
use Rattle.x7_engine.specs.Watching.{first_firing, timer_held, turns_on}
use Rattle.x7_engine.proofs.ClockLemmas.{last_of, none_fires, phase_rises, startup_more, stop_more_bytes}
use Rattle.x7_engine.proofs.TurnLemmas.{newest_within}

-- ---- the reading and the history

reading_on : (bytes more : List ℕ) → AreBytes (bytes ++ more) → (g : LastGapGoesOn bytes more) → IsReading (bytes ++ more) (reading_of bytes).sessions (Searching (g.gap ++ more))
reading_on bytes more fits g =
    let sessions : List EndedSession = (reading_of bytes).sessions in
    let now : IsReading bytes sessions (Searching g.gap) = subst (λ (p : Place). IsReading bytes sessions p) g.searching (reading_is_found bytes (all_prefix (λ b. b < 256) bytes more fits)) in
    record {
      fits = fits;
      joined = ap (λ (b : List ℕ). b ++ more) now.joined ∙ append_assoc (flat_map session_bytes sessions) g.gap more;
      each = now.each;
      ends = g.none;
    }

pub history_on : (bytes more : List ℕ) → AreBytes (bytes ++ more) → LastGapGoesOn bytes more → history_of (bytes ++ more) ≡ history_of bytes
history_on bytes more fits g =
    let sessions : List EndedSession = (reading_of bytes).sessions in
    let now : IsReading bytes sessions (Searching g.gap) = subst (λ (p : Place). IsReading bytes sessions p) g.searching (reading_is_found bytes (all_prefix (λ b. b < 256) bytes more fits)) in
    sym (history_is (bytes ++ more) sessions (Searching (g.gap ++ more)) (reading_on bytes more fits g)) ∙ history_is bytes sessions (Searching g.gap) now

searching_on : (bytes more : List ℕ) → AreBytes (bytes ++ more) → LastGapGoesOn bytes more → is_synced (reading_of (bytes ++ more)).place ≡ false
searching_on bytes more fits g =
    sym (ap is_synced (reading_is (bytes ++ more) (reading_of bytes).sessions (Searching (g.gap ++ more)) (reading_on bytes more fits g)).1)

-- ---- no watchdog, and startup

never_on : (cfg value eos off : Bool) → ((cfg && value) && not off) ≡ false → (cfg && (value && (not eos && not off))) ≡ false
never_on false value eos off e = refl
never_on true false eos off e = refl
never_on true true true off e = refl
never_on true true false off e = e

-- a watchdog that is off fires at no byte
pub never_fires : (part : PartData) (kept : Kept) (h : History) (n k : ℕ) → (turns_on (timer_held kept h) && not (is_fallback kept.kind)) ≡ false → first_firing part kept h n k ≡ None
never_fires part kept h n k off =
    none_fires part kept h n k (λ i m.
    and_left (is_on (is_fallback kept.kind) (timer_held kept h) (startup_ended part h (n + i + 1))) _
    (never_on (cfg_mon_of (timer_held kept h) == 1) (not (timer_value_of (timer_held kept h) == 0)) (startup_ended part h (n + i + 1)) (is_fallback kept.kind) off))

pub stop_on : (part : PartData) (kept : Kept) (h : History) (n k : ℕ) → newest_place h ≤ n → (turns_on (timer_held kept h) && not (is_fallback kept.kind)) ≡ false → first_stop_of_history part kept h n ≡ None → first_stop_of_history part kept h (n + k) ≡ None
stop_on part kept h n k l off none =
    stop_more_bytes part kept h n k l
    ∙ ap (λ (o : Option Stopped). option_or o (stop_at_firing (first_firing part kept h n k))) none
    ∙ ap stop_at_firing (never_fires part kept h n k off)

startup_on : (part : PartData) (h : History) (n k : ℕ) → newest_place h ≤ n → (startup_progress h n ≡ NotBegun) ⊎ (phase_of part h n ≡ 7) → (startup_progress h (n + k) ≡ NotBegun) ⊎ (phase_of part h (n + k) ≡ 7)
startup_on part h n k l (inl e) = inl (ap progress_of (startup_more h n k l) ∙ progress_bytes (startup_calls h n) k ∙ ap (further k) e)
startup_on part h n k l (inr e) =
    let rises : phase_of part h n ≤ phase_of part h (n + k) = phase_rises part h n k l in
    let most : phase_of part h (n + k) ≤ 7 = last_of part (startup_progress h (n + k)) in
    inr (omega (arith, rises, most, e))

-- ---- at rest

pub rest_on : (part : PartData) (kept : Kept) (bytes more : List ℕ) → AreBytes (bytes ++ more) → LastGapGoesOn bytes more → AtRest part kept bytes → AtRest part kept (bytes ++ more)
rest_on part kept bytes more fits g r =
    let h : History = history_of bytes in
    let n : ℕ = length bytes in
    let same : history_of (bytes ++ more) ≡ h = history_on bytes more fits g in
    let count : length (bytes ++ more) ≡ n + length more = length-append bytes more in
    let newest : newest_place h ≤ n = newest_within n h (placed_of bytes (all_prefix (λ b. b < 256) bytes more fits)) in
    record {
      no_stop = ap (λ (x : History). first_stop_of_history part kept x (length (bytes ++ more))) same ∙ ap (first_stop_of_history part kept h) count ∙ stop_on part kept h n (length more) newest r.no_watchdog r.no_stop;
      searching = searching_on bytes more fits g;
      startup = subst (λ (x : History). (startup_progress x (length (bytes ++ more)) ≡ NotBegun) ⊎ (phase_of part x (length (bytes ++ more)) ≡ 7)) (sym same)
          (subst (λ (m : ℕ). (startup_progress h m ≡ NotBegun) ⊎ (phase_of part h m ≡ 7)) (sym count) (startup_on part h n (length more) newest r.startup));
      sbits = ap (λ (x : History). forbids_reading (ctl0_held x)) same ∙ r.sbits;
      no_shutdown = ap is_pending same ∙ r.no_shutdown;
      no_watchdog = ap (λ (x : History). turns_on (timer_held kept x) && not (is_fallback kept.kind)) same ∙ r.no_watchdog;
    }

pub rest_new : (part : PartData) → AtRest part on_the_bench []
rest_new part = record { no_stop = refl; searching = refl; startup = inl refl; sbits = refl; no_shutdown = refl; no_watchdog = refl }

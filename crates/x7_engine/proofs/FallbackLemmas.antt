-- A fallback does the same whatever its device kept over the reset: it has no watchdog, and kept words show in their
-- own registers alone.
use Rattle.std.proofs.Common.{◌≡◌, ◌&&◌, ◌-◌, ℕ, Bool, true, false, not, Option, None, List, [], ◌∷◌, length, refl, ap, sym, ◌∙◌}
use Rattle.std.proofs.lemmas.Bool.{and_right}
use Rattle.std.specs.Option.{option_or}
use Rattle.x7_packets.specs.ByHand.{reading_of}
use Rattle.x7_packets.specs.History.{Access, Bad, History, Read, Write, history_of}
use Rattle.x7_packets.specs.Reading.{is_synced}
use Rattle.x7_part.specs.Part.{PartData}
use Rattle.x7_flow.specs.FrameMemory.{memory_of}
use Rattle.x7_engine.specs.Course.{course_at}
use Rattle.x7_engine.specs.Kept.{AreFallbacks, is_fallback, without_kept}
use Rattle.x7_engine.specs.State.{history_by, memory_of_bytes, state_by, state_of, first_stop_of_bytes, taken_by, why_stopped}
use Rattle.x7_engine.specs.Shown.{with_values}
use Rattle.x7_engine.specs.Stop.{Stopped, first_stop_of_history, stop_at_place, stop_at_firing, why_at_access}
use Rattle.x7_engine.specs.Watching.{first_firing, timer_held, turns_on}
use Rattle.x7_engine.specs.declared.kept.Kept.{Kept}
use Rattle.x7_engine.specs.declared.snapshot.Snapshot.{Snapshot}
use Rattle.x7_engine.specs.declared.stop.StopCause.{StopCause}
use Rattle.x7_engine.proofs.RestLemmas.{never_fires}

-- no watchdog runs in a fallback, and none fires
pub fallback_off : (kept : Kept) (h : History) → is_fallback kept.kind ≡ true → (turns_on (timer_held kept h) && not (is_fallback kept.kind)) ≡ false
fallback_off kept h e = and_right (turns_on (timer_held kept h)) (not (is_fallback kept.kind)) (ap not e)

pub none_fired : (part : PartData) (kept : Kept) (h : History) (from count : ℕ) → is_fallback kept.kind ≡ true → first_firing part kept h from count ≡ None
none_fired part kept h from count e = never_fires part kept h from count (fallback_off kept h e)

module _ (part : PartData) (one other : Kept) (bytes : List ℕ) (f : AreFallbacks one other) where
  same_why : (h : History) (access : Access) → why_at_access part one h access ≡ why_at_access part other h access
  same_why h (Write register w) = rw (f.0, f.1) refl
  same_why h (Read register count) = refl
  same_why h (Bad w) = refl

  same_stops : (h : History) (n : ℕ) → first_stop_of_history part one h n ≡ first_stop_of_history part other h n
  same_stops [] n = ap stop_at_firing (none_fired part one [] 0 n f.0 ∙ sym (none_fired part other [] 0 n f.1))
  same_stops (x ∷ h) n =
      let fired : first_firing part one (x ∷ h) x.place (n - x.place) ≡ first_firing part other (x ∷ h) x.place (n - x.place) = none_fired part one (x ∷ h) x.place (n - x.place) f.0 ∙ sym (none_fired part other (x ∷ h) x.place (n - x.place) f.1) in
      ap (λ (o : Option Stopped). option_or o (option_or (stop_at_place x.place (why_at_access part one h x.access)) (stop_at_firing (first_firing part one (x ∷ h) x.place (n - x.place))))) (same_stops h x.place)
      ∙ ap (λ (w : Option StopCause). option_or (first_stop_of_history part other h x.place) (option_or (stop_at_place x.place w) (stop_at_firing (first_firing part one (x ∷ h) x.place (n - x.place))))) (same_why h x.access)
      ∙ ap (λ (m : Option ℕ). option_or (first_stop_of_history part other h x.place) (option_or (stop_at_place x.place (why_at_access part other h x.access)) (stop_at_firing m))) fired

  pub kept_stop : first_stop_of_bytes part one bytes ≡ first_stop_of_bytes part other bytes
  kept_stop = same_stops (history_of bytes) (length bytes)

  pub kept_memory : memory_of_bytes part one bytes ≡ memory_of_bytes part other bytes
  kept_memory = ap (λ (o : Option Stopped). memory_of part (history_by o (history_of bytes))) kept_stop

  -- the state after the bytes, by their first stop, without what shows what was kept
  abbrev registers : Kept → Bool → Option Stopped → Snapshot
  registers kept wrapped o = without_kept (state_by (course_at part kept (history_by o (history_of bytes)) (taken_by o (length bytes))) wrapped (why_stopped o) (is_synced (reading_of bytes).place))

  not_kept : (wrapped : Bool) (o : Option Stopped) → registers one wrapped o ≡ registers other wrapped o
  unfolding with_values
  not_kept wrapped o = refl

  pub kept_state : (wrapped : Bool) → without_kept (state_of part one wrapped bytes) ≡ without_kept (state_of part other wrapped bytes)
  kept_state wrapped = ap (registers one wrapped) kept_stop ∙ not_kept wrapped (first_stop_of_bytes part other bytes)

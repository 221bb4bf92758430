-- A history that grows where no watchdog runs and no access stops a device.
use Rattle.std.proofs.Common.{◌≡◌, ◌&&◌, ◌+◌, ◌-◌, ◌≤◌, ℕ, false, not, None, ◌∷◌, ap, ◌∙◌, arith, subst}
use Rattle.x7_packets.specs.History.{Access, History, entry}
use Rattle.x7_part.specs.Part.{PartData}
use Rattle.x7_engine.specs.declared.kept.Kept.{Kept}
use Rattle.x7_engine.specs.Clock.{newest_place}
use Rattle.x7_engine.specs.Kept.{is_fallback}
use Rattle.x7_engine.specs.Stop.{why_at_access, first_stop_of_history, stop_at_place}
use Rattle.x7_engine.specs.Watching.{timer_held, turns_on}
use Rattle.x7_engine.proofs.ClockLemmas.{stop_of_access}
use Rattle.x7_engine.proofs.RestLemmas.{stop_on}

-- no watchdog runs
abbrev pub IsOff : Kept → History → Type 0
IsOff kept h = (turns_on (timer_held kept h) && not (is_fallback kept.kind)) ≡ false

-- no stop in the first n bytes, with no access past them, and no watchdog
pub record IsCalm (part : PartData) (kept : Kept) (h : History) (n : ℕ) : Type 0 where
  pub no_stop : first_stop_of_history part kept h n ≡ None
  pub off : IsOff kept h
  pub newest : newest_place h ≤ n

pub calm_bytes : (part : PartData) (kept : Kept) (h : History) (n m : ℕ) → n ≤ m → IsCalm part kept h n → IsCalm part kept h m
calm_bytes part kept h n m l c =
    let sum : n + (m - n) ≡ m = omega (arith, l) in
    record {
      no_stop = subst (λ (k : ℕ). first_stop_of_history part kept h k ≡ None) sum (stop_on part kept h n (m - n) c.newest c.off c.no_stop);
      off = c.off;
      newest = omega (arith, l, c.newest);
    }

-- an access that stops nothing and leaves the watchdog off keeps a history calm
pub calm_access : (part : PartData) (kept : Kept) (h : History) (access : Access) (n place : ℕ) → n ≤ place → IsCalm part kept h n
    → why_at_access part kept h access ≡ None → IsOff kept (entry access place ∷ h) → IsCalm part kept (entry access place ∷ h) place
calm_access part kept h access n place l c none off =
    let before : IsCalm part kept h place = calm_bytes part kept h n place l c in
    record {
      no_stop = stop_of_access part kept h access place before.no_stop ∙ ap (stop_at_place place) none;
      off = off;
      newest = omega arith;
    }

-- What more ticks do to the phase and to the count of ticks (UG470, startup; that `tick_limit` ticks are counted at
-- most is this project's choice).
use Rattle.std.specs.Prelude.{◌≡◌, ℕ, ◌+◌, min}
use Rattle.x7_startup.specs.Phases.{IsPhase, tick_limit}
use Rattle.x7_startup.specs.declared.phases.Reached.{Reached}

-- `more` ticks lead from the old phase and count of ticks to the new ones; each count stops at `tick_limit`
abbrev pub PassesTicks : (ℕ → ℕ) → Reached → ℕ → Reached → Type 0
PassesTicks wait old more new =
    (ticks : ℕ) → old.ticks ≡ min ticks tick_limit → IsPhase wait ticks old.phase
    → (new.ticks ≡ min (ticks + more) tick_limit) × IsPhase wait (ticks + more) new.phase

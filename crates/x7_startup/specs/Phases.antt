-- The ticks at which startup comes to its phases (UG470, startup; the counting of ticks is this project's choice).
use Rattle.std.specs.Prelude.{◌==◌, ℕ, zero, suc, ◌+◌, ◌≤◌, max, if◌then◌else◌}
use Rattle.x7_startup.specs.Options.{lock_cycle_of, match_cycle_of}

-- the ticks since startup began that must have passed before a phase is left: those that the clocks need to lock where
-- LOCK_CYCLE is the phase, those that the impedance needs to match where MATCH_CYCLE is, the larger where both are,
-- else 0
abbrev pub wait_of : ℕ → ℕ → ℕ → ℕ → ℕ
wait_of lock_ticks match_ticks cor0 phase =
    max (if lock_cycle_of cor0 == phase then lock_ticks else 0) (if match_cycle_of cor0 == phase then match_ticks else 0)

-- how many bytes a tick takes (this project's choice)
abbrev pub tick_size : ℕ
tick_size = 4

-- how many ticks are counted at most, the greatest number of 16 bits: no part waits for more
abbrev pub tick_limit : ℕ
tick_limit = 65535

-- the number of the last phase of startup, in which it has ended
abbrev pub last_phase : ℕ
last_phase = 7

-- the ticks since startup began at which a phase begins, by the ticks for which each phase waits
unfoldable pub first_tick_of : (ℕ → ℕ) → ℕ → ℕ
first_tick_of wait zero = 0
first_tick_of wait (suc p) = 1 + max (first_tick_of wait p) (wait p)

-- the phase after `ticks` ticks, by the ticks for which each phase waits: the greatest, up to the last, that has begun
pub record IsPhase (wait : ℕ → ℕ) (ticks phase : ℕ) : Type 0 where
  pub most : phase ≤ last_phase
  pub begun : first_tick_of wait phase ≤ ticks
  pub greatest : (p : ℕ) → p ≤ last_phase → first_tick_of wait p ≤ ticks → p ≤ phase

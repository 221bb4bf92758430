-- How soon startup may come to its end, by its phase: each phase takes a tick at least (UG470, startup), and of the
-- present tick all bytes but one may have been taken already.
use Rattle.std.specs.Prelude.{ℕ, ◌+◌, ◌*◌, ◌-◌}
use Rattle.x7_startup.specs.Phases.{last_phase, tick_size}

-- the least number of bytes more after which the last phase may have come, of a device in this phase, and 1 in the last
-- phase itself
abbrev pub soonest_end : ℕ → ℕ
soonest_end phase = tick_size * (last_phase - 1 - phase) + 1

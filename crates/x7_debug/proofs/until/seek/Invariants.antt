use Rattle.std.proofs.Common.{◌≡◌, ◌≤◌, ◌<◌, ◌-◌, ℕ, false}
use Rattle.x7_debug.specs.Moving.{ComesForward}
use Rattle.x7_debug.specs.Position.{holds_at}
use Rattle.x7_debug.proofs.until.seek.Given as goal

abbrev pub invariant-loop-stop : goal.invariant-loop-stop
invariant-loop-stop l = record {
  comes : ComesForward l.stream l.fn.device l.device l.journal l.device.taken;
  since : l.fn.device.taken ≤ l.device.taken;
  within : l.device.taken ≤ l.bound;
  none : (k : ℕ) → l.fn.device.taken ≤ k → k < l.device.taken → holds_at l.fn.device.part l.stream l.stop k ≡ false;
}

abbrev pub decreases-loop-stop : goal.decreases-loop-stop
decreases-loop-stop l = l.bound - l.device.taken

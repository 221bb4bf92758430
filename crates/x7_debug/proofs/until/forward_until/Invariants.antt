use Rattle.std.proofs.Common.{◌≡◌, ◌≤◌, ◌<◌, ◌-◌, ℕ, false, max}
use Rattle.x7_debug.specs.Journal.{oldest_by, records_of}
use Rattle.x7_debug.specs.Moving.{ComesForward}
use Rattle.x7_debug.specs.Position.{holds_at}
use Rattle.x7_debug.proofs.JournalLemmas.{Reaches}
use Rattle.x7_debug.proofs.until.forward_until.Given as goal

abbrev pub invariant-loop-stop : goal.invariant-loop-stop
invariant-loop-stop l = record {
  comes : ComesForward l.stream l.fn.device l.device l.journal l.device.taken;
  since : l.fn.device.taken ≤ l.device.taken;
  within : l.device.taken ≤ l.last;
  none : (k : ℕ) → l.fn.device.taken < k → k ≤ l.device.taken → holds_at l.fn.device.part l.stream l.stop k ≡ false;
  reaches : l.device.taken < l.last → Reaches l.fn.device.taken l.device.taken (records_of l.journal);
  oldest : l.fn.device.taken < l.device.taken → oldest_by l.device.taken (records_of l.journal) ≤ max l.fn.device.taken (l.device.taken - 253);
}

abbrev pub decreases-loop-stop : goal.decreases-loop-stop
decreases-loop-stop l = l.last - l.device.taken

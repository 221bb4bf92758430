use Rattle.std.proofs.Common.{◌≤◌, ◌-◌}
use Rattle.x7_debug.specs.Journal.{records_of}
use Rattle.x7_debug.specs.Moving.{ComesForward}
use Rattle.x7_debug.proofs.JournalLemmas.{Reaches}
use Rattle.x7_debug.proofs.moving.go_by_words.Given as goal

abbrev pub invariant-loop-device : goal.invariant-loop-device
invariant-loop-device l = record {
  comes : ComesForward l.stream l.fn.device l.device l.journal l.device.taken;
  within : l.device.taken ≤ l.to;
  since : l.fn.device.taken ≤ l.device.taken;
  reaches : Reaches l.fn.device.taken l.device.taken (records_of l.journal);
}

abbrev pub decreases-loop-device : goal.decreases-loop-device
decreases-loop-device l = l.to - l.device.taken

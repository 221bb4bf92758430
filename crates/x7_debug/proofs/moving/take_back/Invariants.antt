use Rattle.std.proofs.Common.{◌≡◌, ◌≤◌, ◌+◌, length}
use Rattle.x7_engine.specs.Standing.{fed_of}
use Rattle.x7_debug.specs.Journal.{IsOnStream, oldest_by, records_of}
use Rattle.x7_debug.proofs.moving.take_back.Given as goal

abbrev pub invariant-loop-journal : goal.invariant-loop-journal
invariant-loop-journal l = record {
  on : IsOnStream l.device.part l.stream l.device l.journal;
  part : l.device.part ≡ l.fn.device.part;
  near : l.to ≤ l.device.taken + 3;
  few : l.device.taken ≤ l.to → length (records_of l.journal) ≤ 63;
  fed : fed_of l.device ≡ fed_of l.fn.device;
  oldest : oldest_by l.device.taken (records_of l.journal) ≡ oldest_by l.fn.device.taken (records_of l.fn.journal);
}

abbrev pub decreases-loop-journal : goal.decreases-loop-journal
decreases-loop-journal l = l.journal.count

use Rattle.std.proofs.Common.{◌≤◌, length, take}
use Rattle.x7_part.specs.AddressOrder.{addresses_in}
use Rattle.x7_report.specs.Frames.{AreRanksShown}
use Rattle.x7_report.proofs.frames.shown_ranks.Given as goal

abbrev pub invariant-loop-rank : goal.invariant-loop-rank
invariant-loop-rank l = record {
  within : l.rank ≤ length (addresses_in l.part);
  shown : AreRanksShown l.part l.memory (take l.rank (addresses_in l.part)) l.ranks.items;
}

use Rattle.std.proofs.Common.{◌≡◌}
use Rattle.x7_planner.specs.FullStreamPieces.{HasGiven, puts_left}
use Rattle.x7_planner.proofs.full_stream.put_all.Given as goal

abbrev pub invariant-loop : goal.invariant-loop
invariant-loop l = record {
  given : HasGiven l.stream l.out.items;
  part : l.stream.part ≡ l.fn.stream.part;
  plan : l.stream.plan ≡ l.fn.stream.plan;
}

abbrev pub decreases-loop : goal.decreases-loop
decreases-loop l = puts_left l.stream

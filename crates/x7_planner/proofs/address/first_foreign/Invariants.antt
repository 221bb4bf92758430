use Rattle.std.proofs.Common.{take}
use Rattle.x7_memory.specs.Plan.{AreAddressed}
use Rattle.x7_planner.proofs.address.first_foreign.Given as goal

abbrev pub invariant-loop-i : goal.invariant-loop-i
invariant-loop-i l = AreAddressed l.part (take l.i l.plan.rows)

use Rattle.std.proofs.Common.{◌≡◌, take}
use Rattle.x7_planner.specs.Content.{planned_rows}
use Rattle.x7_planner.specs.PartialStream.{rows_not_shared}
use Rattle.x7_planner.proofs.group.frames_not_shared.Given as goal

abbrev pub invariant-loop-row : goal.invariant-loop-row
invariant-loop-row l = planned_rows l.alone.items ≡ rows_not_shared l.plan.rows (take l.row l.plan.rows)

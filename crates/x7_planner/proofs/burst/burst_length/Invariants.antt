use Rattle.std.proofs.Common.{◌≡◌, ℕ, ◌+◌, ◌<◌, ◌≤◌, true, get_or}
use Rattle.x7_memory.specs.Plan.{PlanRow}
use Rattle.x7_planner.specs.Content.{planned_rows}
use Rattle.x7_planner.specs.PartialStream.{follows}
use Rattle.x7_planner.proofs.burst.burst_length.Given as goal

abbrev pub invariant-loop-k : goal.invariant-loop-k
invariant-loop-k l =
    (1 ≤ l.k)
    × ((j : ℕ) (d : PlanRow) → j + 1 < l.k → follows l.part (get_or (planned_rows l.frames) j d).far (get_or (planned_rows l.frames) (j + 1) d).far ≡ true)

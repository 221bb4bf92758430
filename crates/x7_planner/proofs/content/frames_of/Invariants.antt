use Rattle.std.proofs.Common.{◌≡◌, ℕ, ◌<◌, length, take, get_or}
use Rattle.x7_planner.specs.Content.{planned_rows}
use Rattle.x7_planner.specs.declared.content.PlannedFrame.{PlannedFrame}
use Rattle.x7_planner.proofs.content.frames_of.Given as goal

abbrev pub invariant-loop-row : goal.invariant-loop-row
invariant-loop-row l =
    (planned_rows l.frames.items ≡ take l.row l.plan.rows) × (length l.frames.items ≡ l.row)
    × ((i : ℕ) (d : PlannedFrame) → i < length l.frames.items → (get_or l.frames.items i d).row ≡ i)

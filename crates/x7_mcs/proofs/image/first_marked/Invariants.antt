use Rattle.std.proofs.Common.{◌-◌, ◌≤◌}
use Rattle.x7_mcs.specs.Image.{AreFree}
use Rattle.x7_mcs.proofs.image.first_marked.Given as goal

abbrev pub invariant-loop-at : goal.invariant-loop-at
invariant-loop-at l = record { since : l.place ≤ l.at; within : l.at ≤ l.end; free : AreFree l.marks l.place l.at }

abbrev pub decreases-loop-at : goal.decreases-loop-at
decreases-loop-at l = l.end - l.at

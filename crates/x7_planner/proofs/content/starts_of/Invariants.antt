use Rattle.std.proofs.Common.{◌≡◌, length}
use Rattle.x7_planner.proofs.ContentLemmas.{StartsUpTo}
use Rattle.x7_planner.proofs.content.starts_of.Given as goal

abbrev pub invariant-loop-k : goal.invariant-loop-k
invariant-loop-k l = StartsUpTo l.plan.rows l.frames l.starts.items l.k × (length l.starts.items ≡ length l.plan.rows)

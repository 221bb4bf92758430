use Rattle.std.proofs.Common.{◌≡◌, drop}
use Rattle.toml.specs.View.{items_view}
use Rattle.x7_part.specs.Limits.{most_minors}
use Rattle.x7_part.specs.PartChecks.{are_in}
use Rattle.x7_part.specs.Values.{wholes}
use Rattle.x7_part.proofs.ranges.are_minor_counts.Given as goal

abbrev pub invariant-loop-item : goal.invariant-loop-item
invariant-loop-item l = are_in 1 most_minors (wholes (items_view (drop l.item-index l.items))) ≡ are_in 1 most_minors (wholes (items_view l.items))

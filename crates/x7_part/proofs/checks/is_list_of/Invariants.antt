use Rattle.std.proofs.Common.{◌≡◌, drop}
use Rattle.toml.specs.View.{items_view}
use Rattle.x7_part.specs.PartChecks.{are_kind}
use Rattle.x7_part.proofs.checks.is_list_of.Given as goal

abbrev pub invariant-loop-item : goal.invariant-loop-item
invariant-loop-item l = are_kind l.kind (items_view (drop l.item-index l.item-items)) ≡ are_kind l.kind (items_view l.item-items)

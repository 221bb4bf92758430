use Rattle.std.proofs.Common.{◌≡◌, ◌++◌, map, drop}
use Rattle.toml.specs.View.{items_view}
use Rattle.x7_part.specs.Values.{natural, wholes}
use Rattle.x7_part.proofs.row.minors_of.Given as goal

abbrev pub invariant-loop-item : goal.invariant-loop-item
invariant-loop-item l = l.minors.items ++ map natural (wholes (items_view (drop l.item-index l.items))) ≡ map natural (wholes (items_view l.items))

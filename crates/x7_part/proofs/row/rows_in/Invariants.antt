use Rattle.std.proofs.Common.{◌≡◌, ◌++◌, map, drop}
use Rattle.toml.specs.View.{items_view}
use Rattle.x7_part.specs.PartChecks.{rows_fault, row_range_fault}
use Rattle.x7_part.specs.Values.{row_of, tables}
use Rattle.x7_part.proofs.row.rows_in.Given as goal

abbrev pub invariant-loop-item : goal.invariant-loop-item
invariant-loop-item l = record {
  fault : rows_fault row_range_fault l.number (tables (items_view (drop l.item-index l.items))) ≡ rows_fault row_range_fault 1 (tables (items_view l.items));
  rows : l.rows.items ++ map row_of (tables (items_view (drop l.item-index l.items))) ≡ map row_of (tables (items_view l.items));
}

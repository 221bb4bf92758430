use Rattle.std.proofs.Common.{◌≡◌, ◌+◌, ◌*◌, ◌≤◌, ◌++◌, drop, length}
use Rattle.x7_part.specs.AddressOrder.{addresses}
use Rattle.x7_part.specs.Column.{table_of as columns_of}
use Rattle.x7_part.specs.Slot.{pads_after_row}
use Rattle.x7_part.proofs.table.table_of.Given as goal

abbrev pub invariant-loop-row : goal.invariant-loop-row
invariant-loop-row l = record {
  columns : l.columns.items ++ columns_of l.widths l.rank l.place (drop l.row-index l.rows) ≡ columns_of l.widths 0 0 l.rows;
  rank : l.rank + length (addresses l.widths (drop l.row-index l.rows)) ≡ length (addresses l.widths l.rows);
  place : l.place ≤ l.rank + pads_after_row * l.row-index;
}

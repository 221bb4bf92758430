use Rattle.std.proofs.Common.{◌≡◌, ◌+◌, ◌*◌, ◌≤◌, ◌++◌, drop}
use Rattle.x7_part.specs.Column.{row_columns}
use Rattle.x7_part.specs.Limits.{greatest_byte}
use Rattle.x7_part.proofs.table.add_row.Given as goal

abbrev pub invariant-loop-column : goal.invariant-loop-column
invariant-loop-column l = record {
  columns : l.columns.items ++ row_columns l.pitch l.base l.column l.rank l.place (drop l.column l.minors) ≡ l.fn.columns.items ++ row_columns l.fn.pitch l.fn.base 0 l.fn.rank l.fn.place l.fn.minors;
  rank : l.rank ≤ l.fn.rank + greatest_byte * l.column;
  place : l.place ≤ l.fn.place + greatest_byte * l.column;
}

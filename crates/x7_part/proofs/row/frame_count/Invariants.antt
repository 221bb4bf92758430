use Rattle.std.proofs.Common.{◌≡◌, ◌≤◌, ◌*◌, take}
use Rattle.std.specs.Prelude.{sum}
use Rattle.std.specs.List.{sum_by}
use Rattle.x7_part.specs.Limits.{greatest_byte, most_columns}
use Rattle.x7_part.proofs.row.frame_count.Given as goal

abbrev pub invariant-loop-row : goal.invariant-loop-row
invariant-loop-row l = record {
  sum : l.total ≡ sum_by (λ r. sum r.minors) (take l.row-index l.rows);
  bound : l.total ≤ greatest_byte * most_columns * l.row-index;
}

use Rattle.std.proofs.Common.{◌≡◌, [], take, drop}
use Rattle.x7_part.specs.Row.{same_row_fault}
use Rattle.x7_part.proofs.row.check_same_rows.Given as goal

abbrev pub invariant-loop-place : goal.invariant-loop-place
invariant-loop-place l = same_row_fault (take l.place l.rows) (drop l.place l.rows) ≡ same_row_fault [] l.rows

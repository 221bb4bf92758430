use Rattle.std.proofs.Common.{◌≡◌, drop}
use Rattle.x7_part.specs.Row.{has_same_row}
use Rattle.x7_part.proofs.row.has_same_row.Given as goal

abbrev pub invariant-loop-other : goal.invariant-loop-other
invariant-loop-other l = has_same_row l.row (drop l.other-index l.rows) ≡ has_same_row l.row l.rows

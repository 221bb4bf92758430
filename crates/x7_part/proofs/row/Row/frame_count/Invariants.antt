use Rattle.std.proofs.Common.{◌≡◌, ◌*◌, ◌≤◌, take}
use Rattle.std.specs.Prelude.{sum}
use Rattle.x7_part.specs.Limits.{greatest_byte}
use Rattle.x7_part.proofs.row.Row.frame_count.Given as goal

abbrev pub invariant-loop-count : goal.invariant-loop-count
invariant-loop-count l = record {
  sum : l.total ≡ sum (take l.count-index l.count-items);
  bound : l.total ≤ greatest_byte * l.count-index;
}

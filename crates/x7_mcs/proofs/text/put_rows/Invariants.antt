use Rattle.std.proofs.Common.{◌≡◌, ◌+◌, ◌*◌, ◌<◌, ◌≤◌, ◌++◌, length, vec_len, vec_capacity}
use Rattle.x7_text.specs.Row.{rows}
use Rattle.x7_mcs.specs.Text.{row_lines}
use Rattle.x7_mcs.proofs.text.put_rows.Given as goal

abbrev pub invariant-loop-rest : goal.invariant-loop-rest
invariant-loop-rest l = record {
  lines : l.fn.text.items ++ row_lines l.place (rows 16 l.bytes) ≡ l.text.items ++ row_lines l.at (rows 16 l.rest);
  left : l.at + length l.rest ≡ l.place + length l.bytes;
  room : 0 < length l.rest → vec_len l.text + (4 * length l.rest + 60) ≤ vec_capacity l.text;
  capacity : vec_capacity l.fn.text ≤ vec_capacity l.text;
}

abbrev pub decreases-loop-rest : goal.decreases-loop-rest
decreases-loop-rest l = length l.rest

use Rattle.std.proofs.Common.{◌≤◌, take, vec_capacity, codes}
use Rattle.x7_text.specs.Digits.{hex_byte}
use Rattle.x7_text.proofs.OpenLineLemmas.{WrittenSoFar}
use Rattle.x7_text.proofs.row.put_each_byte.Given as goal

abbrev pub invariant-loop-byte : goal.invariant-loop-byte
invariant-loop-byte l =
    WrittenSoFar 32 (codes "bytes ") hex_byte l.fn.in_line l.fn.text.items (take l.byte-index l.bytes) l.text.items l.count
    × (vec_capacity l.fn.text ≤ vec_capacity l.text)

use Rattle.std.proofs.Common.{◌≡◌, ◌-◌, ◌+◌, ◌*◌, ◌<◌, length}
use Rattle.x7_svf.specs.Bits.{bits_from, bytes_bits}
use Rattle.x7_svf.proofs.bits.bytes_of.Given as goal

abbrev pub invariant-loop-piece : goal.invariant-loop-piece
invariant-loop-piece l = record {
  bits : bytes_bits l.piece.items ≡ bits_from l.digits l.from (8 * length l.piece.items);
  at : l.at ≡ l.from + 8 * length l.piece.items;
  inside : l.at < l.count;
}

abbrev pub decreases-loop-piece : goal.decreases-loop-piece
decreases-loop-piece l = l.count - l.at

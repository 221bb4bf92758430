use Rattle.std.proofs.Common.{arith, ap, ◌∷◌, [], length, length-append}
use Rattle.x7_svf.proofs.ByteLemmas.{piece_on}
use Rattle.x7_svf.proofs.bits.bytes_of.Goals as goal

pub loop-piece-preserved : goal.loop-piece-preserved
loop-piece-preserved c = record {
  bits = piece_on c.args.digits.now c.args.from c.loop-piece.at c.byte_from.result c.loop-piece.piece.items c.push.new.self.items c.push.ensures.items c.loop-piece.invariant.at c.loop-piece.invariant.bits c.byte_from.ensures;
  at = omega (arith, c.loop-piece.invariant.at, ap length c.push.ensures.items, length-append c.loop-piece.piece.items (c.byte_from.result ∷ []));
  inside = omega (arith, c.if-count-at-gt8.true);
}

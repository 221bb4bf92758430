use Rattle.std.proofs.Common.{arith}
use Rattle.x7_svf.proofs.NumberLemmas.{number_is}
use Rattle.x7_svf.proofs.words.number_within.Goals as goal

pub loop-rest-init : goal.loop-rest-init
loop-rest-init c = record {
  same = number_is c.args.limit c.args.word.now (grind (arith, c.if-is_empty.false, c.is_empty.ensures));
  within = omega arith;
}

use Rattle.std.proofs.Common.{arith}
use Rattle.x7_listing.proofs.asm.fast.WordsAtLemmas.{space_more}
use Rattle.x7_listing.proofs.asm.fast.quick.has_spaces.Goals as goal

pub loop-k-preserved : goal.loop-k-preserved
loop-k-preserved c = space_more c.args.text.now c.loop-k.k c.loop-k.invariant c.if-text-k-ne32.false

pub returns : goal.returns
returns c h k l = c.loop-k.invariant k (omega arith)

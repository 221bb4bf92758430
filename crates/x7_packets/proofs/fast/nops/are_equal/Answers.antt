use Rattle.std.proofs.lemmas.Bool.{eqb-true}
use Rattle.x7_packets.proofs.BlockLemmas.{same_block}
use Rattle.x7_packets.proofs.fast.nops.are_equal.Goals as goal

pub returns : goal.returns
returns c h = same_block c.args.a.now c.args.b.now c.told-a c.told-b (eqb-true _ _ h)

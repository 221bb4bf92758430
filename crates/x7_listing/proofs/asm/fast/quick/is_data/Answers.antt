use Rattle.std.proofs.Common.{arith, codes}
use Rattle.x7_listing.proofs.asm.fast.WordsAtLemmas.{prefix_four}
use Rattle.x7_listing.proofs.asm.fast.quick.is_data.Goals as goal

pub returns : goal.returns
returns c h = prefix_four c.args.text.now (codes "data") (omega (arith, c.told-text)) c.eq.result c.eq.ensures h

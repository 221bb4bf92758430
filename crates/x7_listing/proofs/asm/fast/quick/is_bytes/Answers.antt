use Rattle.std.proofs.Common.{arith, codes}
use Rattle.x7_listing.proofs.asm.fast.WordsAtLemmas.{prefix_six}
use Rattle.x7_listing.proofs.asm.fast.quick.is_bytes.Goals as goal

pub returns : goal.returns
returns c h = prefix_six c.args.text.now (codes "bytes ") (omega (arith, c.told-text)) c.eq.result c.eq.ensures h

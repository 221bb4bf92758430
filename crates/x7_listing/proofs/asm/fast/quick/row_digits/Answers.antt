use Rattle.std.proofs.Common.{arith}
use Rattle.x7_listing.proofs.asm.fast.WordsAtLemmas.{row_of}
use Rattle.x7_listing.proofs.asm.fast.quick.row_digits.Goals as goal

pub returns : goal.returns
returns c = row_of c.args.text.now c.joined-low.result c.joined-high.result _ _ _ _ (omega (arith, c.told-text)) c.two_eights.ensures c.two_eights-2.ensures c.two_eights-3.ensures c.two_eights-4.ensures c.joined-low.ensures c.joined-high.ensures

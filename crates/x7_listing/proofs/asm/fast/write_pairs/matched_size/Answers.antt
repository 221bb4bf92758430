use Rattle.std.proofs.Common.{arith, get_or}
use Rattle.x7_listing.proofs.asm.fast.WritePairsLemmas.{same_by_mask}
use Rattle.x7_listing.proofs.asm.fast.write_pairs.matched_size.Goals as goal

pub returns : goal.returns
returns c = (omega arith, same_by_mask (get_or c.args.row.now 31 0) c.differences.result c.args.text.now c.args.row.now (omega arith) (omega arith) (omega arith) c.differences.ensures (omega arith))

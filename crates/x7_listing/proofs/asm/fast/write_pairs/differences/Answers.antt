use Rattle.std.proofs.Common.{arith}
use Rattle.std.proofs.lemmas.List.{length-take-le}
use Rattle.x7_listing.proofs.asm.fast.WritePairsLemmas.{mask_of}
use Rattle.x7_listing.proofs.asm.fast.write_pairs.differences.Goals as goal

pub returns : goal.returns
returns c = mask_of _ c.args.row.now (length-take-le 32 c.args.text.now (omega (arith, c.told-text))) (omega arith)

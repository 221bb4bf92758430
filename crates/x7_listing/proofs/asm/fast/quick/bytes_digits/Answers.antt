use Rattle.std.proofs.Common.{arith, drop}
use Rattle.std.proofs.lemmas.List.{take-take}
use Rattle.x7_listing.proofs.asm.fast.quick.bytes_digits.Goals as goal

pub returns : goal.returns
returns c = take-take 64 71 (drop 6 c.args.text.now) (omega arith)

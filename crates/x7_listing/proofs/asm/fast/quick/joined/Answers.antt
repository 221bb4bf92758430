use Rattle.std.proofs.Common.{◌++◌, arith, length-append}
use Rattle.std.proofs.lemmas.Simd.{pick_l_whole}
use Rattle.x7_listing.proofs.asm.fast.quick.joined.Goals as goal

pub returns : goal.returns
returns c = pick_l_whole 0 (c.args.a ++ c.args.b) 32 (omega (arith, length-append c.args.a c.args.b, c.requires.a, c.requires.b))

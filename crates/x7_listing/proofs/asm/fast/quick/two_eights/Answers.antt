use Rattle.std.proofs.Common.{◌++◌, arith, length-append}
use Rattle.std.proofs.lemmas.Simd.{length-chunk, pick_l_whole}
use lib.Lanes.{chunk}
use Rattle.x7_listing.proofs.asm.fast.quick.two_eights.Goals as goal

pub returns : goal.returns
returns c =
    let a = chunk c.args.one 8 c.args.text.now in
    let b = chunk c.args.other 8 c.args.text.now in
    pick_l_whole 0 (chunk c.args.one 8 c.args.text.now ++ chunk c.args.other 8 c.args.text.now) 16 (omega (arith, length-append a b, length-chunk c.args.one 8 c.args.text.now c.requires.one, length-chunk c.args.other 8 c.args.text.now c.requires.other))

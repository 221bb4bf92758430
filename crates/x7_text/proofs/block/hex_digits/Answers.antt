use Rattle.x7_text.proofs.BlockLemmas.{look_up_fits, looked_up}
use Rattle.x7_text.proofs.block.hex_digits.Goals as goal

pub swizzle : goal.swizzle
swizzle c = look_up_fits c.args.numbers c.requires.lanes c.requires.below

pub returns : goal.returns
returns c = looked_up c.args.numbers c.requires.lanes c.requires.below

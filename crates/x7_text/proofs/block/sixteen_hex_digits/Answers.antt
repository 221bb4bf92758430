use Rattle.x7_text.proofs.BlockLemmas.{digits_are}
use Rattle.x7_text.proofs.block.sixteen_hex_digits.Goals as goal

pub returns : goal.returns
returns c = digits_are c.args.numbers 16 c.requires.lanes c.requires.below

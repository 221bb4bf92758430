use Rattle.x7_text.proofs.BlockLemmas.{four_halves}
use Rattle.x7_text.proofs.block.halves_of_four.Goals as goal

pub returns : goal.returns
returns c = four_halves c.args.bytes c.requires

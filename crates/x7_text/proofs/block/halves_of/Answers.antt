use Rattle.x7_text.proofs.BlockLemmas.{halves_are}
use Rattle.x7_text.proofs.block.halves_of.Goals as goal

pub returns : goal.returns
returns c = halves_are c.args.bytes c.requires

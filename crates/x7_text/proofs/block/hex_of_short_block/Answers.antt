use Rattle.x7_text.proofs.FewLemmas.{hex_of_prefix}
use Rattle.x7_text.proofs.block.hex_of_short_block.Goals as goal

pub returns : goal.returns
returns c = hex_of_prefix c.args.bytes.now c.copy_from_slice.new.self _ c.hex_of_block.result c.copy_from_slice.ensures.after c.hex_of_block.ensures

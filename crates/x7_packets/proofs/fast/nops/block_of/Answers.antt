use Rattle.std.proofs.Common.{◌∙◌}
use Rattle.x7_packets.proofs.BlockLemmas.{eight_equal}
use Rattle.x7_packets.proofs.fast.nops.block_of.Goals as goal

pub returns : goal.returns
returns c = c.copy_from_slice.ensures.after ∙ c.as_flattened.ensures.value ∙ eight_equal 8 c.args.word c.bytes_of.result c.bytes_of.ensures.value

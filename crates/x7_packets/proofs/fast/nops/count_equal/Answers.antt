use Rattle.x7_packets.proofs.BlockLemmas.{equal_after}
use Rattle.x7_packets.proofs.fast.nops.count_equal.Goals as goal

pub returns-clause-equal : goal.returns-clause-equal
returns-clause-equal c = equal_after c.args.bytes.now c.count_blocks-blocks.result c.count_words.result c.args.word c.count_blocks-blocks.ensures.within c.count_blocks-blocks.ensures.equal c.count_words.ensures.equal

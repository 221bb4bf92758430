use Rattle.std.proofs.Common.{◌∙◌}
use Rattle.x7_packets.proofs.BlockLemmas.{block_more}
use Rattle.x7_packets.proofs.fast.nops.count_blocks.Goals as goal

pub loop-i-preserved : goal.loop-i-preserved
loop-i-preserved c =
    block_more c.args.bytes.now c.as_chunks.result.0.now c.loop-i.i c.args.word c.as_chunks.ensures.front c.loop-i-test.true
    (c.are_equal.ensures c.if-not-are_equal.false ∙ c.block_of-block.ensures) c.loop-i.invariant

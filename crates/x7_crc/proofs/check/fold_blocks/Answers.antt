use Rattle.std.proofs.Common.{◌∙◌, ap, arith}
use Rattle.x7_crc.specs.Check.{check_after, writes_to}
use Rattle.x7_crc.proofs.CheckLemmas.{check_after_fits}
use Rattle.x7_crc.proofs.BlockLemmas.{block_taken, blocks_end, four_of}
use Rattle.x7_crc.proofs.check.fold_blocks.Goals as goal

pub loop-block-preserved : goal.loop-block-preserved
loop-block-preserved c =
    let next = c.fold_four-folded.ensures c.args.register c.requires.register c.check_of_zeros-zeros.ensures
    ∙ ap (λ ws. check_after c.loop-block.folded (writes_to c.args.register ws)) (four_of c.words_of.result c.words_of.ensures.length ∙ c.words_of.ensures.value) in (
      block_taken c.loop-block.folded c.args.register c.loop-block.block-index c.fold_four-folded.result _ c.args.blocks.now c.loop-block.invariant.1 c.loop-block-test.true next c.loop-block.invariant.0,
      rw next (check_after_fits c.loop-block.folded (writes_to c.args.register _)),
    )

pub returns : goal.returns
returns c =
    blocks_end c.loop-block.folded c.args.register c.loop-block.block-index _ c.args.blocks.now c.loop-block.invariant.1 (omega (arith, c.loop-block-test.false)) c.loop-block.invariant.0

use Rattle.std.proofs.Common.{◌∙◌, ◌/◌, ap, arith, length}
use Rattle.std.specs.List.{flat_map}
use Rattle.x7_words.specs.Word.{words_of_bytes}
use Rattle.x7_crc.specs.Check.{check_after, writes_to}
use Rattle.x7_crc.proofs.BlockLemmas.{blocks_and_rest}
use Rattle.x7_crc.proofs.CheckLemmas.{check_of_more}
use Rattle.x7_crc.proofs.check.fold_slice.Goals as goal

pub returns-clause-value : goal.returns-clause-value
returns-clause-value c =
    blocks_and_rest c.args.before c.args.register c.fold_blocks.result _ (length c.args.bytes.now / 16) c.args.bytes.now c.ranges.before.fits (omega arith)
    (c.fold_blocks.ensures ∙ ap (λ bs. check_after c.args.before (writes_to c.args.register (flat_map words_of_bytes bs))) c.as_chunks.ensures.front)
    (c.fold_words.ensures ∙ ap (λ bs. check_after c.fold_blocks.result (writes_to c.args.register (words_of_bytes bs))) c.as_chunks.ensures.back)

pub returns-clause-goes_on : goal.returns-clause-goes_on
returns-clause-goes_on c writes e =
    blocks_and_rest c.args.before c.args.register c.fold_blocks.result _ (length c.args.bytes.now / 16) c.args.bytes.now c.ranges.before.fits (omega arith)
    (c.fold_blocks.ensures ∙ ap (λ bs. check_after c.args.before (writes_to c.args.register (flat_map words_of_bytes bs))) c.as_chunks.ensures.front)
    (c.fold_words.ensures ∙ ap (λ bs. check_after c.fold_blocks.result (writes_to c.args.register (words_of_bytes bs))) c.as_chunks.ensures.back)
    ∙ check_of_more c.args.before writes (writes_to c.args.register (words_of_bytes c.args.bytes.now)) e

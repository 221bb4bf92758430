use Rattle.std.proofs.Common.{List, ℕ, ◌*◌, ◌+◌, arith}
use Rattle.std.specs.List.{flat_map}
use Rattle.x7_text.specs.Digits.{hex_word}
use Rattle.x7_report.proofs.ReportLemmas.{all_appended, item_more, none_appended}
use Rattle.x7_report.proofs.frames.put_blocks.Goals as goal

pub loop-block-init : goal.loop-block-init
loop-block-init c = none_appended c.args.out.now

pub loop-block-preserved : goal.loop-block-preserved
loop-block-preserved c =
    let i = c.loop-block.block-index in
    item_more (λ (block : List ℕ). flat_map hex_word block) c.args.blocks.now _ i (64 * i) (64 * (i + 1)) 64 c.args.out.now c.loop-block.out c.put_eight.new.out c.loop-block-test.true (omega arith) c.loop-block.invariant c.put_eight.ensures.appends

pub returns : goal.returns
returns c =
    let i = c.loop-block.block-index in
    record { appends = all_appended (λ (block : List ℕ). flat_map hex_word block) c.args.blocks.now i (64 * i) _ c.args.out.now c.loop-block.out (omega (arith, c.loop-block-test.false)) (omega (arith, c.loop-block-test.false)) c.loop-block.invariant }

use Rattle.std.proofs.Common.{ℕ, ◌*◌, ◌+◌, List, arith, length, subst}
use Rattle.x7_text.specs.Appends.{Appends}
use Rattle.x7_text.specs.Digits.{hex_word}
use Rattle.x7_report.proofs.ReportLemmas.{all_appended, item_more, none_appended}
use Rattle.x7_report.proofs.frames.put_digits_one_by_one.Goals as goal

pub loop-word-init : goal.loop-word-init
loop-word-init c = none_appended c.args.out.now

pub loop-word-preserved : goal.loop-word-preserved
loop-word-preserved c =
    let i = c.loop-word.word-index in
    item_more hex_word c.args.words.now _ i (8 * i) (8 * (i + 1)) 8 c.args.out.now c.loop-word.out c.put.new.text c.loop-word-test.true (omega arith) c.loop-word.invariant
    (subst (λ (digits : List ℕ). Appends c.loop-word.out c.put.new.text digits (length digits)) c.hex_of_word.ensures c.put.ensures.appends)

pub returns : goal.returns
returns c =
    let i = c.loop-word.word-index in
    record { appends = all_appended hex_word c.args.words.now i (8 * i) _ c.args.out.now c.loop-word.out (omega (arith, c.loop-word-test.false)) (omega (arith, c.loop-word-test.false)) c.loop-word.invariant }

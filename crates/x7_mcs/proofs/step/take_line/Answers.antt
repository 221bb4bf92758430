use Rattle.std.proofs.Common.{ap, arith, inr, subst, sym, ◌∙◌}
use Rattle.x7_mcs.specs.Flash.{after_bytes}
use Rattle.x7_mcs.specs.Flash.{mcs_reading}
use Rattle.x7_mcs.specs.Readings.{CallComesTo}
use Rattle.x7_mcs.proofs.LongLemmas.{by_false, by_true, digits_line, empty_line, long_line, odd_line, other_line}
use Rattle.x7_mcs.proofs.step.take_line.Goals as goal

pub returns-then-digits : goal.returns-then-digits
returns-then-digits c = λ xs h. inr (long_line c.args.line_number (mcs_reading c.args.context.base c.args.context.has_ended xs) c.args.line.now c.split_at.result.1.now c.if-line-ne58.false c.split_at.ensures.back (omega (arith, c.if-digits.true)))

pub returns-then-digits-ne0 : goal.returns-then-digits-ne0
returns-then-digits-ne0 c = λ xs h. inr (odd_line c.args.line_number (mcs_reading c.args.context.base c.args.context.has_ended xs) c.args.line.now c.split_at.result.1.now c.if-line-ne58.false c.split_at.ensures.back (omega (arith, c.if-digits-ne0.true)))

pub returns-then-line-eq0 : goal.returns-then-line-eq0
returns-then-line-eq0 c = λ xs h. record { records = xs; came = empty_line c.args.line_number (mcs_reading c.args.context.base c.args.context.has_ended xs) c.args.line.now c.if-line-eq0.true; holds = h }

pub returns-then-line-ne58 : goal.returns-then-line-ne58
returns-then-line-ne58 c = λ xs h. inr (other_line c.args.line_number (mcs_reading c.args.context.base c.args.context.has_ended xs) c.args.line.now c.if-line-eq0.false c.if-line-ne58.true)

pub returns-then-not-read_pairs : goal.returns-then-not-read_pairs
returns-then-not-read_pairs c = λ xs h.
    let r = mcs_reading c.args.context.base c.args.context.has_ended xs in
    inr (digits_line c.args.line_number r c.args.line.now c.split_at.result.1.now (λ e. c.if-line-eq0.false e) c.if-line-ne58.false c.split_at.ensures.back
    ∙ ap (after_bytes c.args.line_number r) (by_false c.read_pairs.result _ _ c.if-not-read_pairs.true c.read_pairs.ensures.value))

pub returns : goal.returns
returns c = λ xs h.
    let r = mcs_reading c.args.context.base c.args.context.has_ended xs in
    subst (λ reading. CallComesTo c.take_record.result reading c.take_record.new.image)
    (sym (digits_line c.args.line_number r c.args.line.now c.split_at.result.1.now (λ e. c.if-line-eq0.false e) c.if-line-ne58.false c.split_at.ensures.back
    ∙ ap (after_bytes c.args.line_number r) (by_true c.read_pairs.result _ _ c.if-not-read_pairs.false c.read_pairs.ensures.value)))
    (c.take_record.ensures xs h)

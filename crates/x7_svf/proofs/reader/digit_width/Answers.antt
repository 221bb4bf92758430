use Rattle.std.proofs.Common.{◌<◌, sym, subst}
use Rattle.x7_words.specs.Characters.{digit_number}
use Rattle.x7_svf.proofs.ValueLemmas.{digit_below, width_between}
use Rattle.x7_svf.proofs.reader.digit_width.Goals as goal

pub returns-then-value-lt4 : goal.returns-then-value-lt4
returns-then-value-lt4 c = width_between c.digit_number-value.result (digit_number c.args.digit) 1 c.digit_number-value.ensures c.if-value-lt2.false c.if-value-lt4.true

pub returns-then-value-lt8 : goal.returns-then-value-lt8
returns-then-value-lt8 c = width_between c.digit_number-value.result (digit_number c.args.digit) 2 c.digit_number-value.ensures c.if-value-lt4.false c.if-value-lt8.true

pub returns-else-value-lt8 : goal.returns-else-value-lt8
returns-else-value-lt8 c = width_between c.digit_number-value.result (digit_number c.args.digit) 3 c.digit_number-value.ensures c.if-value-lt8.false
    (subst (λ v. v < 16) (sym c.digit_number-value.ensures) (digit_below c.args.digit c.requires))

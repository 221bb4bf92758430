use Rattle.std.proofs.Common.{◌∙◌, sym, arith}
use Rattle.x7_text.proofs.DigitLemmas.{no_decimal, not_parsed, one_digit, utf8_decimal}
use Rattle.x7_text.proofs.reading.number_of_decimal.Goals as goal

pub returns-in_default : goal.returns-in_default
returns-in_default c = λ n h e. c.in_default.ensures.cases.0 (utf8_decimal c.args.digits.now n h e)

pub returns-in_default-parse : goal.returns-in_default-parse
returns-in_default-parse c = λ n h e. not_parsed c.in-Ok.text.now c.parse.result c.in_default-parse.field-0 c.in_default-parse.is c.parse.ensures.value.0 n h (c.in-Ok.ensures.cases.0 ∙ e)

pub returns-else-is_same : goal.returns-else-is_same
returns-else-is_same c =
    λ n h e. no_decimal c.in-Ok.text.now c.as_bytes.result.now c.parse.result c.in-Ok-parse.number c.is_same.result c.in-Ok-parse.is c.parse.ensures.value.0
    (c.as_bytes.ensures.value ∙ c.format.ensures.text) c.if-is_same.false (λ q. c.is_same.ensures.1 (q ∙ c.in-Ok.ensures.cases.0)) n h (c.in-Ok.ensures.cases.0 ∙ e)

pub returns-then-is_ascii_digit : goal.returns-then-is_ascii_digit
returns-then-is_ascii_digit c = (omega arith, one_digit c.args.digits.now c.from.result c.if-digits-eq1.true (sym c.is_ascii_digit.ensures.value ∙ c.if-is_ascii_digit.true) c.from.ensures)

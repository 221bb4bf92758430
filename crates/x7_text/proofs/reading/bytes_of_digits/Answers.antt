use Rattle.std.proofs.Common.{ap, ◌∙◌}
use Rattle.x7_text.specs.DigitValue.{pairs_value}
use Rattle.x7_text.proofs.DigitLemmas.{pairs_digits}
use Rattle.x7_text.proofs.reading.bytes_of_digits.Goals as goal

pub returns-clause-value : goal.returns-clause-value
returns-clause-value c = c.bytes_of_halves.ensures ∙ ap pairs_value c.numbers_of.ensures ∙ pairs_digits c.args.digits.now

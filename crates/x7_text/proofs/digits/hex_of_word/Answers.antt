use Rattle.std.proofs.Common.{ap, arith, sym, ◌∙◌}
use Rattle.std.specs.List.{flat_map}
use Rattle.x7_text.specs.Digits.{hex_byte}
use Rattle.x7_text.proofs.ValueLemmas.{word_digits}
use Rattle.x7_text.proofs.digits.hex_of_word.Goals as goal

pub returns : goal.returns
returns c = c.hex_of_four.ensures ∙ ap (flat_map hex_byte) c.bytes_of.ensures.value ∙ sym (word_digits c.args.word (omega (arith, c.ranges.word)))

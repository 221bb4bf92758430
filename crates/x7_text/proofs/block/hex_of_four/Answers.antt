use Rattle.std.proofs.Common.{ap, ◌∙◌, map}
use Rattle.x7_text.specs.Digits.{hex_digit}
use Rattle.x7_text.proofs.BlockLemmas.{bytes_fit, halves_below, halves_digits}
use Rattle.x7_text.proofs.block.hex_of_four.Goals as goal

pub eight_hex_digits-requires-clause-below : goal.eight_hex_digits-requires-clause-below
eight_hex_digits-requires-clause-below c = rw c.halves_of_four.ensures (halves_below c.args.bytes.now (bytes_fit c.args.bytes.now c.fits-bytes))

pub returns : goal.returns
returns c = c.eight_hex_digits.ensures ∙ ap (map hex_digit) c.halves_of_four.ensures ∙ halves_digits c.args.bytes.now (bytes_fit c.args.bytes.now c.fits-bytes)

use Rattle.std.proofs.Common.{ap, ◌∙◌, map}
use Rattle.x7_text.specs.Digits.{hex_digit}
use Rattle.x7_text.proofs.BlockLemmas.{bytes_fit, halves_below, halves_digits}
use Rattle.x7_text.proofs.block.hex_of_block.Goals as goal

pub hex_digits-requires-clause-below : goal.hex_digits-requires-clause-below
hex_digits-requires-clause-below c = rw c.halves_of.ensures (halves_below c.args.bytes.now (bytes_fit c.args.bytes.now c.fits-bytes))

pub returns : goal.returns
returns c = c.hex_digits.ensures ∙ ap (map hex_digit) c.halves_of.ensures ∙ halves_digits c.args.bytes.now (bytes_fit c.args.bytes.now c.fits-bytes)

use Rattle.std.proofs.Common.{sym, ◌∙◌}
use Rattle.x7_text.proofs.DigitLemmas.{no_bytes, same_no, same_yes}
use Rattle.x7_text.proofs.reading.block_of_hex.Goals as goal

pub returns-then-eq : goal.returns-then-eq
returns-then-eq c = sym (same_yes _ c.args.digits.now c.eq.result c.eq.ensures c.if-eq.true) ∙ c.hex_of_block.ensures

pub returns-else-eq : goal.returns-else-eq
returns-else-eq c = no_bytes c.args.digits.now c.hex_of_block.result c.bytes_of_digits-bytes.result c.eq.result c.bytes_of_digits-bytes.ensures.value c.hex_of_block.ensures c.if-eq.false (same_no _ c.args.digits.now c.eq.result c.eq.ensures)

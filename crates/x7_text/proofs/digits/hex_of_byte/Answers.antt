use Rattle.std.proofs.Common.{◌≡◌, refl, ap, ◌∙◌, arith}
use Rattle.x7_text.specs.Digits.{hex_byte}
use Rattle.x7_text.proofs.ByteLemmas.{byte_at}
use Rattle.x7_text.proofs.digits.hex_of_byte.Goals as goal

pub returns : goal.returns
returns c = let same : c.from.result ≡ c.args.byte = omega arith in byte_at _ c.from.result refl (omega arith) ∙ ap hex_byte same

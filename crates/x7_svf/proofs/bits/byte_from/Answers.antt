use Rattle.std.proofs.Common.{◌*◌, ◌+◌, ◌/◌, ℕ, ap₂, refl}
use Rattle.x7_svf.proofs.ByteLemmas.{byte_of_digits}
use Rattle.x7_svf.proofs.bits.byte_from.Goals as goal

pub returns : goal.returns
returns c =
    byte_of_digits c.args.digits.now c.args.at (c.args.at / 4) c.four_bits-first.result c.four_bits-second.result (c.mirrored_digit.result * 16 + c.mirrored_digit-2.result) c.requires.whole refl c.four_bits-first.ensures.most c.four_bits-second.ensures.most
    (ap₂ (λ (a b : ℕ). a * 16 + b) c.mirrored_digit.ensures.value c.mirrored_digit-2.ensures.value) c.four_bits-first.ensures.bits c.four_bits-second.ensures.bits

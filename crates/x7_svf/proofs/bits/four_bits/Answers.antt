use Rattle.std.proofs.Common.{arith}
use Rattle.x7_svf.proofs.ByteLemmas.{bits_within}
use Rattle.x7_svf.proofs.bits.four_bits.Goals as goal

pub returns-clause-bits : goal.returns-clause-bits
returns-clause-bits c = bits_within c.args.digits.now c.args.place c.digit_number.result (omega (arith, c.if-place-digits.false)) c.digit_number.ensures

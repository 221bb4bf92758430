use Rattle.x7_svf.proofs.DigitLemmas.{value_bit}
use Rattle.x7_svf.proofs.laws.bits_are_those_of_the_value.Goals as goal

pub returns : goal.returns
returns c = value_bit

use Rattle.x7_crc.proofs.CheckLemmas.{check_after_linear}
use Rattle.x7_crc.proofs.laws.checks_are_linear.Goals as goal

pub returns : goal.returns
returns c before register word h k l = check_after_linear before register word h k l

use Rattle.x7_crc.proofs.CheckLemmas.{check_after_only, check_after_remainder, check_after_fits, check_of_remainder}
use Rattle.x7_crc.proofs.laws.checks_are_remainders.Goals as goal

pub returns-clause-most : goal.returns-clause-most
returns-clause-most c = check_after_fits

pub returns-clause-remainder : goal.returns-clause-remainder
returns-clause-remainder c = check_of_remainder

pub returns-clause-continued : goal.returns-clause-continued
returns-clause-continued c = check_after_remainder

pub returns-clause-unique : goal.returns-clause-unique
returns-clause-unique c before check writes h k r = check_after_only before check writes h k r

use Rattle.x7_crc.proofs.CheckLemmas.{check_after_append, check_after_none}
use Rattle.x7_crc.proofs.laws.checks_continue.Goals as goal

pub returns-clause-no_writes : goal.returns-clause-no_writes
returns-clause-no_writes c = check_after_none

pub returns-clause-parts : goal.returns-clause-parts
returns-clause-parts c = check_after_append

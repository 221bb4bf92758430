use Rattle.x7_boot.proofs.CheckedLemmas.{last_checked, start_checked}
use Rattle.x7_boot.proofs.laws.starts_are_checked.Goals as goal

pub returns-clause-attempt : goal.returns-clause-attempt
returns-clause-attempt c = start_checked

pub returns-clause-boot : goal.returns-clause-boot
returns-clause-boot c = λ part flash b fits is. last_checked part flash is.last is.older b.end fits is.leads

use Rattle.x7_boot.proofs.CheckedLemmas.{attempt_checked, checked}
use Rattle.x7_boot.proofs.laws.startup_is_checked.Goals as goal

pub returns-clause-state : goal.returns-clause-state
returns-clause-state c = checked

pub returns-clause-attempt : goal.returns-clause-attempt
returns-clause-attempt c = attempt_checked

pub returns-clause-boot : goal.returns-clause-boot
returns-clause-boot c = λ part flash b fits is late. attempt_checked part flash is.last fits is.leads.1 late

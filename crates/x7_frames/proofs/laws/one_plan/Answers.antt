use Rattle.x7_frames.proofs.OneFaultLemmas.{one_fault}
use Rattle.x7_frames.proofs.OneLemmas.{no_fault, one_plan}
use Rattle.x7_frames.proofs.laws.one_plan.Goals as goal

pub returns-clause-one_plan : goal.returns-clause-one_plan
returns-clause-one_plan c = one_plan

pub returns-clause-not_both : goal.returns-clause-not_both
returns-clause-not_both c = no_fault

pub returns-clause-one_fault : goal.returns-clause-one_fault
returns-clause-one_fault c = one_fault

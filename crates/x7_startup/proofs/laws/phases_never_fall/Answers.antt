use Rattle.x7_startup.proofs.CallLemmas.{one_phase_after, phase_never_falls}
use Rattle.x7_startup.proofs.laws.phases_never_fall.Goals as goal

pub returns-clause-one_phase : goal.returns-clause-one_phase
returns-clause-one_phase c = one_phase_after

pub returns-clause-bytes : goal.returns-clause-bytes
returns-clause-bytes c = phase_never_falls

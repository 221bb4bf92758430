use Rattle.x7_flow.proofs.PlanLemmas.{write_plans}
use Rattle.x7_flow.proofs.laws.written_frames_are_a_plan.Goals as goal

pub returns : goal.returns
returns c = λ part earlier x t rises. write_plans part earlier x.far x.far_place x.place x.frames x.last t.some rises t.takes t.whole

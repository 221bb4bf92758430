use Rattle.std.proofs.Common.{ap, length, refl, sym, subst}
use Rattle.x7_memory.specs.Plan.{AreAddressed, PlanData}
use Rattle.x7_planner.specs.FullStream.{full_stream}
use Rattle.x7_device_forms.proofs.GenerateLemmas.{gen_is, plan_of_seed_is_addressed, planned_is}
use Rattle.x7_forms.proofs.ResultLemmas.{ok_weaker}
use Rattle.x7_device_forms.proofs.generate.gen_text.Goals as goal

pub summary_of_plan-requires-clause-width : goal.summary_of_plan-requires-clause-width
summary_of_plan-requires-clause-width c = ap (λ (p : PlanData). p.width) c.in_ok-plan.ensures

pub summary_of_plan-requires-clause-addresses : goal.summary_of_plan-requires-clause-addresses
summary_of_plan-requires-clause-addresses c = subst (λ (p : PlanData). AreAddressed c.args.part.now p.rows) (sym c.in_ok-plan.ensures) (plan_of_seed_is_addressed c.args.part.now c.args.seed)

pub returns-clause-text : goal.returns-clause-text
returns-clause-text c =
    let part = c.args.part.now in
    let plan : PlanData = c.in_ok-plan.plan in
    ok_weaker c.summary_of_plan.result (λ text h. gen_is part c.args.seed (length plan.rows) plan (full_stream part plan) text.items c.in_ok-plan.ensures refl refl h) c.summary_of_plan.ensures

pub returns-clause-planned : goal.returns-clause-planned
returns-clause-planned c = ok_weaker c.summary_of_plan.result (λ text h. planned_is c.args.part.now c.args.seed text.items c.frames-frames.ensures.part h) (returns-clause-text c)

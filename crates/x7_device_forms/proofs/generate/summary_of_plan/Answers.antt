use Rattle.std.proofs.Common.{length, refl}
use Rattle.x7_planner.specs.FullStream.{full_stream}
use Rattle.x7_device_forms.proofs.GenerateLemmas.{few_reads, planned_as}
use Rattle.x7_forms.proofs.ResultLemmas.{ok_weaker}
use Rattle.x7_device_forms.proofs.generate.summary_of_plan.Goals as goal

pub returns : goal.returns
returns c =
    let part = c.args.part.now in
    let plan = c.args.plan.now in
    let few = few_reads part plan (full_stream part plan) c.requires.part c.len.ensures.plan c.requires.width c.requires.addresses refl in
    ok_weaker c.summarized.result (λ text h. planned_as part c.args.seed c.len.result (length plan.rows) (full_stream part plan) text.items
    (h part (full_stream part plan) (c.in_ok-size.ensures.played, c.in_ok-size.ensures.size, few)) c.len.ensures.value) c.summarized.ensures

use Rattle.std.proofs.Common.{List, ap, ◌∙◌, ◌++◌}
use Rattle.std.proofs.lemmas.Result.{on_ok_weaker}
use Rattle.x7_memory.specs.Plan.{PlanRow}
use Rattle.x7_planner.specs.Content.{planned_rows}
use Rattle.x7_planner.specs.PartialStream.{bursts_words}
use Rattle.x7_planner.specs.Writer.{bytes_of_words}
use Rattle.x7_planner.proofs.BurstLemmas.{alone_addressed, alone_few}
use Rattle.x7_planner.proofs.partial_stream.put_alone.Goals as goal

pub put_bursts-requires-clause-addresses : goal.put_bursts-requires-clause-addresses
put_bursts-requires-clause-addresses c = alone_addressed c.args.part.now c.args.plan.now.rows c.deref.result.now c.requires.addresses (ap planned_rows c.deref.ensures.value ∙ c.in_ok-alone.ensures)

pub put_bursts-requires-clause-limit : goal.put_bursts-requires-clause-limit
put_bursts-requires-clause-limit c =
    alone_few c.args.part.now c.args.plan.now.rows c.deref.result.now c.frames-frames.ensures.part c.len-rows.ensures.plan.order c.requires.addresses (ap planned_rows c.deref.ensures.value ∙ c.in_ok-alone.ensures)

pub returns : goal.returns
returns c =
    on_ok_weaker c.put_bursts.result
    (λ e. e ∙ ap (λ (t : List PlanRow). c.args.out.now.items ++ bytes_of_words (bursts_words c.args.part.now t)) (ap planned_rows c.deref.ensures.value ∙ c.in_ok-alone.ensures)) c.put_bursts.ensures

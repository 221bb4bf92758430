use Rattle.std.proofs.Common.{refl}
use Rattle.x7_planner.specs.declared.content.PlannedFrame.{PlannedFrame}
use Rattle.x7_memory.specs.Plan.{PlanRow}
use Rattle.x7_planner.proofs.GroupLemmas.{content_pushed}
use Rattle.x7_planner.proofs.content.frames_of.Goals as goal

pub loop-row-preserved : goal.loop-row-preserved
loop-row-preserved c =
    let content : PlannedFrame = record { far = c.in-Some.far; words = c.in-Some.words; row = c.loop-row.row } in
    let row : PlanRow = record { far = c.in-Some.far; words = c.in-Some.words.now } in
    let i = c.loop-row.invariant in
    content_pushed c.args.plan.now.rows c.loop-row.frames.items c.push.new.self.items c.loop-row.row content row i.0 i.1 i.2 c.in-Some.ensures.found.0 (c.in-Some.ensures.found.1 row) refl c.in_ok-push.ensures.items

use Rattle.std.proofs.Common.{get_or}
use Rattle.x7_memory.specs.Plan.{PlanRow}
use Rattle.x7_planner.specs.declared.content.PlannedFrame.{PlannedFrame}
use Rattle.x7_planner.proofs.GroupLemmas.{first_at, inside_at, not_shared_more}
use Rattle.x7_planner.proofs.group.frames_not_shared.Goals as goal

pub are_shared-is_shared-requires : goal.are_shared-is_shared-requires
are_shared-is_shared-requires c =
    let row : PlanRow = record { far = c.in-Some.far; words = c.in-Some.words.now } in
    let first = first_at c.args.plan.now.rows c.args.by_content.now.frames.now c.args.by_content.now.starts.now c.loop-row.row row 0 row c.requires.starts c.in-Some.ensures.found.0 (c.in-Some.ensures.found.1 row) in
    record { together = c.requires.frames.together; firsts = c.requires.firsts; first = first; inside = inside_at c.args.by_content.now.frames.now c.in-Some.words.now _ first }

pub loop-row-preserved : goal.loop-row-preserved
loop-row-preserved c =
    let row : PlanRow = record { far = c.in-Some.far; words = c.in-Some.words.now } in
    let content : PlannedFrame = record { far = c.in-Some.far; words = c.in-Some.words; row = c.loop-row.row } in
    not_shared_more c.args.plan.now.rows c.args.by_content.now.frames.now c.loop-row.alone.items c.add_alone.new.alone.items (get_or c.args.by_content.now.starts.now c.loop-row.row 0) c.loop-row.row content row c.are_shared-is_shared.result c.requires.frames
    (first_at c.args.plan.now.rows c.args.by_content.now.frames.now c.args.by_content.now.starts.now c.loop-row.row row 0 row c.requires.starts c.in-Some.ensures.found.0 (c.in-Some.ensures.found.1 row))
    c.in-Some.ensures.found.0 (c.in-Some.ensures.found.1 row) c.are_shared-is_shared.ensures c.loop-row.invariant c.in_ok-add_alone.ensures

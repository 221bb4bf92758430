use Rattle.std.proofs.Common.{get_or}
use Rattle.x7_memory.specs.Plan.{PlanRow}
use Rattle.x7_planner.proofs.GroupLemmas.{first_at, inside_at, group_more}
use Rattle.x7_planner.proofs.group.put_groups.Goals as goal

pub put_led_group-requires : goal.put_led_group-requires
put_led_group-requires c =
    let row : PlanRow = record { far = c.in-Some.far; words = c.in-Some.words.now } in
    let first = first_at c.args.plan.now.rows c.args.by_content.now.frames.now c.args.by_content.now.starts.now c.loop-i.i row 0 row c.requires.starts c.in-Some.ensures.found.0 (c.in-Some.ensures.found.1 row) in
    record { together = c.requires.frames.together; firsts = c.requires.firsts; first = first; inside = inside_at c.args.by_content.now.frames.now c.in-Some.words.now _ first }

pub loop-i-preserved : goal.loop-i-preserved
loop-i-preserved c =
    let row : PlanRow = record { far = c.in-Some.far; words = c.in-Some.words.now } in
    group_more c.args.part.now c.args.plan.now.rows c.args.by_content.now.frames.now c.args.out.now.items c.loop-i.out.items c.put_led_group.new.out.items (get_or c.args.by_content.now.starts.now c.loop-i.i 0) c.loop-i.i row row c.requires.frames
    (first_at c.args.plan.now.rows c.args.by_content.now.frames.now c.args.by_content.now.starts.now c.loop-i.i row 0 row c.requires.starts c.in-Some.ensures.found.0 (c.in-Some.ensures.found.1 row))
    c.in-Some.ensures.found.0 (c.in-Some.ensures.found.1 row) c.loop-i.invariant c.in_ok-put_led_group.ensures

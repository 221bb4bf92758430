use Rattle.std.proofs.lemmas.Result.{on_ok_weaker}
use Rattle.x7_planner.specs.Content.{planned_rows}
use Rattle.x7_planner.proofs.GroupLemmas.{led_none, led_some}
use Rattle.x7_planner.proofs.group.put_led_group.Goals as goal

pub returns-then-not-is_first_of_group : goal.returns-then-not-is_first_of_group
returns-then-not-is_first_of_group c =
    led_none c.args.part.now c.args.out.now.items (planned_rows c.args.by_content.now.frames.now) record { far = c.args.far; words = c.args.words.now } c.is_first_of_group.result c.is_first_of_group.ensures c.if-not-is_first_of_group.true

pub returns : goal.returns
returns c =
    on_ok_weaker c.put_group.result
    (λ e. led_some c.args.part.now c.args.out.now.items c.put_group.new.out.items (planned_rows c.args.by_content.now.frames.now) record { far = c.args.far; words = c.args.words.now } c.is_first_of_group.result c.is_first_of_group.ensures c.if-not-is_first_of_group.false e) c.put_group.ensures

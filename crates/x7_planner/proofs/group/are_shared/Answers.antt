use Rattle.std.proofs.Common.{arith}
use Rattle.x7_planner.proofs.GroupLemmas.{group_by, short_group}
use Rattle.x7_planner.proofs.group.are_shared.Goals as goal

pub returns-then-by_content-start-lt-LEAST_GROUP_SIZE : goal.returns-then-by_content-start-lt-LEAST_GROUP_SIZE
returns-then-by_content-start-lt-LEAST_GROUP_SIZE c = short_group c.args.by_content.now.frames.now c.args._words.now c.args.start c.requires.together c.requires.first (omega (arith, c.if-by_content-start-lt-LEAST_GROUP_SIZE.true))

pub returns : goal.returns
returns c =
    group_by c.args.by_content.now.frames.now c.args._words.now c.args.by_content.now.firsts.now c.args.start _ c.requires.together c.requires.firsts c.requires.first (omega (arith, c.if-by_content-start-lt-LEAST_GROUP_SIZE.false, c.requires.inside))

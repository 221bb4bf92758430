use Rattle.x7_planner.proofs.GroupLemmas.{leads_by}
use Rattle.x7_planner.proofs.group.is_first_of_group.Goals as goal

pub returns : goal.returns
returns c = leads_by c.args.by_content.now.frames.now c.args._words.now c.args.start c.args.far _ c.are_shared.result c.requires.together c.requires.first c.are_shared.ensures c.if-not-are_shared.false

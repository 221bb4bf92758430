use Rattle.x7_planner.specs.Content.{planned_rows}
use Rattle.x7_planner.proofs.ContentLemmas.{FirstsUpTo}
use Rattle.x7_planner.proofs.content.firsts_of.Given as goal

abbrev pub invariant-loop-place : goal.invariant-loop-place
invariant-loop-place l = FirstsUpTo (planned_rows l.frames) l.firsts.items l.start l.place

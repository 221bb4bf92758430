use Rattle.std.proofs.Common.{ℕ, List, arith, subst, sym}
use Rattle.std.proofs.lemmas.List.{length-map}
use Rattle.x7_planner.specs.Content.{planned_row, planned_rows}
use Rattle.x7_planner.proofs.ContentLemmas.{FirstsUpTo, firsts_all, firsts_none, firsts_step}
use Rattle.x7_planner.proofs.content.firsts_of.Goals as goal

pub loop-place-init : goal.loop-place-init
loop-place-init c = subst (λ (t : List ℕ). FirstsUpTo (planned_rows c.args.frames.now) t 0 0) (sym c.in_ok-firsts.ensures.items) (firsts_none (planned_rows c.args.frames.now))

pub loop-place-preserved : goal.loop-place-preserved
loop-place-preserved c =
    firsts_step (planned_rows c.args.frames.now) c.loop-place.firsts.items c.push.new.self.items c.loop-place.start c.loop-place.place c.start_at-start.result c.loop-place.invariant c.start_at-start.ensures.first c.start_at-start.ensures.within c.in_ok-push.ensures.items

pub returns : goal.returns
returns c = firsts_all (planned_rows c.args.frames.now) c.loop-place.firsts.items c.loop-place.start c.loop-place.place c.loop-place.invariant (omega (arith, c.loop-place-test.false, c.loop-place.auto.place-end, length-map c.args.frames.now planned_row))

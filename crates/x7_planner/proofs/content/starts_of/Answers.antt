use Rattle.std.proofs.Common.{◌∙◌, arith}
use Rattle.std.proofs.lemmas.List.{length-set}
use Rattle.x7_planner.proofs.ContentLemmas.{starts_step, starts_all}
use Rattle.x7_planner.proofs.content.starts_of.Goals as goal

pub loop-k-preserved : goal.loop-k-preserved
loop-k-preserved c = (
  starts_step c.args.plan.now.rows c.args.frames.now c.loop-k.starts.items c.args.firsts.now c.loop-k.k _ _ c.requires.frames c.requires.firsts c.loop-k.invariant.0 c.loop-k.invariant.1 (omega (arith, c.loop-k-test.true)),
  length-set _ _ _ ∙ c.loop-k.invariant.1,
)

pub returns : goal.returns
returns c = starts_all c.args.plan.now.rows c.args.frames.now c.loop-k.starts.items c.loop-k.k c.requires.frames c.loop-k.invariant.0 c.loop-k.invariant.1 (omega (arith, c.loop-k-test.false))

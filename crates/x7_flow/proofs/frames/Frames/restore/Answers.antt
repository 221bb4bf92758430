use Rattle.std.proofs.Common.{sym, subst}
use Rattle.x7_flow.specs.Saved.{FramesBack}
use Rattle.x7_flow.specs.Standing.{FramesState}
use Rattle.x7_flow.proofs.SavedLemmas.{back_is}
use Rattle.x7_flow.proofs.frames.Frames.restore.Goals as goal

pub returns-clause-back : goal.returns-clause-back
returns-clause-back c = λ old b.
    back_is c.args.part.now c.args.from.now (record { pipeline = c.self.inside.pipeline; memory = c.self.inside.memory }) old (record { pipeline = c.restore.new.self; memory = c.restore.new.memory })
    (subst (λ (f : FramesState). FramesBack c.args.part.now c.args.from.now f old) (sym c.self.view_is) b) c.restore.ensures.pipeline c.restore.ensures.memory c.restore.ensures.put

use Rattle.std.proofs.Common.{sym, subst}
use Rattle.x7_flow.specs.HistoryFlow.{flow_of}
use Rattle.x7_flow.specs.Standing.{FramesState, FramesStandFor, without_due}
use Rattle.x7_flow.proofs.frames.Frames.far.Goals as goal

pub returns : goal.returns
returns c = λ h due are.
    let inside : FramesStandFor c.args.part.now (record { pipeline = c.self.inside.pipeline; memory = c.self.inside.memory }) h due = subst (λ (f : FramesState). FramesStandFor c.args.part.now f h due) (sym c.self.view_is) are in
    c.far.ensures (without_due due (flow_of c.args.part.now h)) inside.flow.stands

use Rattle.std.proofs.Common.{sym, subst, ◌∙◌}
use Rattle.x7_packets.specs.History.{Read, entry}
use Rattle.x7_flow.specs.Standing.{AfterRead, FramesState, FramesStandFor}
use Rattle.x7_flow.proofs.StandingLemmas.{read_answered, refused_read, some_read}
use Rattle.x7_flow.proofs.frames.Frames.fault_of_read.Goals as goal

pub returns : goal.returns
returns c = λ h register count place reads are.
    subst (λ (f : FramesState). AfterRead c.args.part.now f h (entry (Read register count) place) c.fault_of_read.result) c.self.view_is
    (read_answered c.args.part.now (record { pipeline = c.self.inside.pipeline; memory = c.self.inside.memory }) h register count place c.fault_of_read.result reads
    (λ f has. c.fault_of_read.ensures f has.stands ∙ refused_read c.args.part.now c.self.inside.pipeline f count has (some_read register count _ reads))
    (subst (λ (f : FramesState). FramesStandFor c.args.part.now f h 0) (sym c.self.view_is) are))

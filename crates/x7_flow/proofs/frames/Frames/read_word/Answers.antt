use Rattle.std.proofs.Common.{◌+◌, sym, subst, ◌∙◌}
use Rattle.std.proofs.lemmas.Option.{none-some}
use Rattle.x7_flow.specs.HistoryFlow.{Flow, flow_of}
use Rattle.x7_flow.specs.Standing.{FramesState, FramesStandFor, HaveWordsDue, without_due}
use Rattle.x7_flow.proofs.StandingLemmas.{due_somewhere, read_next}
use Rattle.x7_flow.proofs.frames.Frames.read_word.Goals as goal

pub returns-clause-stands : goal.returns-clause-stands
returns-clause-stands c = λ h due are.
    (read_next c.args.part.now c.self.inside.pipeline c.read_word.new.self c.self.inside.memory h due c.in-Ok.word
    (subst (λ (f : FramesState). FramesStandFor c.args.part.now f h (due + 1)) (sym c.self.view_is) are) c.in-Ok.ensures.word c.in-Ok.ensures.stands).0

pub returns-clause-word : goal.returns-clause-word
returns-clause-word c = λ h due are.
    (read_next c.args.part.now c.self.inside.pipeline c.read_word.new.self c.self.inside.memory h due c.in-Ok.word
    (subst (λ (f : FramesState). FramesStandFor c.args.part.now f h (due + 1)) (sym c.self.view_is) are) c.in-Ok.ensures.word c.in-Ok.ensures.stands).1

pub unreachable-requires : goal.unreachable-requires
unreachable-requires c =
    let due = subst (λ (f : FramesState). HaveWordsDue c.args.part.now f 1) (sym c.self.view_is) c.requires.due in
    let f : Flow = flow_of c.args.part.now due.1.history in
    none-some _ (due_somewhere c.args.part.now c.self.inside.pipeline c.self.inside.memory due.1.history due.0 due.1.stands ∙ sym (c.in_default.ensures.fault (without_due (due.0 + 1) f) due.1.stands.flow.stands))

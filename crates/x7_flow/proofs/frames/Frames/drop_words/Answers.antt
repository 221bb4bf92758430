use Rattle.std.proofs.Common.{◌+◌, sym, subst, ◌∙◌}
use Rattle.std.proofs.lemmas.Option.{none-some}
use Rattle.x7_packets.specs.History.{History}
use Rattle.x7_flow.specs.HistoryFlow.{Flow, flow_of}
use Rattle.x7_flow.specs.Standing.{FramesState, FramesStandFor, HaveWordsDue, without_due}
use Rattle.x7_flow.proofs.StandingLemmas.{all_due, read_past}
use Rattle.x7_flow.proofs.frames.Frames.drop_words.Goals as goal

pub returns-clause-stands : goal.returns-clause-stands
returns-clause-stands c = λ h due are.
    read_past c.args.part.now c.self.inside.pipeline c.drop_words.new.self c.self.inside.memory h due c.args.count
    (subst (λ (f : FramesState). FramesStandFor c.args.part.now f h (due + c.args.count)) (sym c.self.view_is) are) c.in-Ok.ensures.stands

pub unreachable-requires : goal.unreachable-requires
unreachable-requires c =
    let due = subst (λ (f : FramesState). HaveWordsDue c.args.part.now f c.args.count) (sym c.self.view_is) c.requires.due in
    let h : History = due.1.history in
    let f : Flow = flow_of c.args.part.now h in
    none-some _ (all_due c.args.part.now c.self.inside.pipeline c.self.inside.memory h due.0 c.args.count due.1.stands ∙ sym (c.in_default.ensures.fault (without_due (due.0 + c.args.count) f) due.1.stands.flow.stands))

use Rattle.std.proofs.Common.{inl, ◌∷◌, [], refl}
use Rattle.x7_forms.specs.Event.{event_of}
use Rattle.x7_forms.specs.ReadingStops.{limited}
use Rattle.x7_forms.proofs.AskedLemmas.{about_among, about_by, unread_about}
use Rattle.x7_forms.proofs.ResultLemmas.{handed_on}
use Rattle.x7_forms.specs.Known.{text_limit}
use Rattle.x7_outcome.specs.Outcome.{frames_event}
use Rattle.x7_stream_forms.proofs.PlanLemmas.{frames_given, frames_refused}
use Rattle.x7_stream_forms.proofs.StopLemmas.{frames_about}
use Rattle.x7_stream_forms.proofs.plan.read_plan.Goals as goal

pub returns-in-Ok-read-clause-caused : goal.returns-in-Ok-read-clause-caused
returns-in-Ok-read-clause-caused g c =
    let i = g.I.Inputs in
    let t = c.in_ok-read.ensures.read in
    frames_given (i.state c.args.inputs.now) (i.state c.feed_whole.new.inputs) c.args.part.now c.in-Ok.lines.part c.args.name.now t.0 t.2 c.in-Ok.ensures.part c.in_ok-read.read t.1 c.in-Ok-read.plan c.in-Ok-read.is

pub returns-in-Err-clause-caused : goal.returns-in-Err-clause-caused
returns-in-Err-clause-caused g c =
    let i = g.I.Inputs in
    let t = c.in_ok-read.ensures.read in
    frames_refused (i.state c.args.inputs.now) (i.state c.feed_whole.new.inputs) c.args.part.now c.in-Ok.lines.part c.args.name.now t.0 t.2 c.in-Ok.ensures.part c.in_ok-read.read t.1 c.in-Err.fault (event_of c.frames_refusal.result) c.in-Err.is c.frames_refusal.ensures

pub returns-in_err-read-clause-stops : goal.returns-in_err-read-clause-stops
returns-in_err-read-clause-stops g c = rw (handed_on c.from_residual.result c.in_err-read.field-0.0 c.from_residual.ensures)
    (about_among (limited text_limit c.args.name.now ∷ []) [] (limited text_limit c.args.name.now) [] (g.I.Inputs.state c.args.inputs.now) (g.I.Inputs.state c.feed_whole.new.inputs)
    (event_of c.in_err-read.field-0.0) refl c.feed_whole.ensures.asks.last c.feed_whole.ensures.asks.once (unread_about c.args.name.now (event_of c.in_err-read.field-0.0) c.in_err-read.ensures.named))

pub returns-in-Err-clause-stops : goal.returns-in-Err-clause-stops
returns-in-Err-clause-stops g c =
    about_among (limited text_limit c.args.name.now ∷ []) [] (limited text_limit c.args.name.now) [] (g.I.Inputs.state c.args.inputs.now) (g.I.Inputs.state c.feed_whole.new.inputs) (event_of c.frames_refusal.result) refl c.feed_whole.ensures.asks.last c.feed_whole.ensures.asks.once
    (about_by c.args.name.now (event_of c.frames_refusal.result) (frames_event c.args.name.now c.in-Err.fault) c.frames_refusal.ensures (frames_about c.args.name.now c.in-Err.fault))

pub returns-in_err-read-clause-caused : goal.returns-in_err-read-clause-caused
returns-in_err-read-clause-caused g c = rw (handed_on c.from_residual.result c.in_err-read.field-0.0 c.from_residual.ensures) (inl c.in_err-read.ensures.refused)

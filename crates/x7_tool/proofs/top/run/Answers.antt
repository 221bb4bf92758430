use Rattle.std.proofs.Common.{◌≡◌, Some, ap, inr, refl, subst, sym, ◌∙◌}
use Rattle.x7_words.specs.Sink.{PutsOrFails}
use Rattle.x7_forms.specs.Event.{Event, event_line, event_of, status_of_event}
use Rattle.x7_forms.specs.Form.{asked_by, form_asked, form_of_strings}
use Rattle.x7_outcome.specs.Outside.{outside}
use Rattle.x7_tool.proofs.AnswerLemmas.{ran_done, ran_none, ran_refused, refused_last, uses_as}
use Rattle.x7_tool.proofs.FlashLemmas.{uses_same}
use Rattle.x7_tool.proofs.RunLemmas.{runs}
use Rattle.x7_tool.proofs.top.run.Goals as goal

pub returns-in-None : goal.returns-in-None
returns-in-None g c =
    let old = outside (g.I.Inputs.state c.args.inputs.now) (g.F.Flash.state c.args.flash.now) (g.O.Sink.state c.args.out.now) (g.E.Sink.state c.args.err.now) in
    let line = subst (λ (event : Event). PutsOrFails (g.E.Sink.state c.args.err.now) (event_line event) (g.E.Sink.state c.tell.new.err)) c.unnamed.ensures c.tell.ensures.line in
    let form = form_of_strings c.args.words.now.items in
    record {
      ran = runs form old (record old { err = g.E.Sink.state c.tell.new.err }) _
          (ran_none form old (g.E.Sink.state c.tell.new.err) _ (sym c.words_of.ensures ∙ ap form_asked c.in-None.is) (c.tell.ensures.status ∙ ap status_of_event c.unnamed.ensures) line)
          (uses_same form (g.I.Inputs.state c.args.inputs.now) (g.F.Flash.state c.args.flash.now)) (inr (inr refl));
    }

pub returns-in-Ok : goal.returns-in-Ok
returns-in-Ok g c =
    let err = g.E.Sink.state c.args.err.now in
    let old = outside (g.I.Inputs.state c.args.inputs.now) (g.F.Flash.state c.args.flash.now) (g.O.Sink.state c.args.out.now) err in
    let new = outside (g.I.Inputs.state c.answer.new.inputs) (g.F.Flash.state c.answer.new.flash) (g.O.Sink.state c.answer.new.out) err in
    let here = c.answer.ensures.answered err err in
    let answered = rw c.in-Ok.is at here in
    let last = c.answer.ensures.failed_last in
    let form = form_of_strings c.args.words.now.items in
    let asked : form ≡ Some (asked_by c.in-Some.form) = sym c.words_of.ensures ∙ ap form_asked c.in-Some.is in
    record {
      ran = runs form old new _ (ran_done form (asked_by c.in-Some.form) old new _ c.in-Ok.stopped asked c.of_text.ensures refl answered)
          (uses_as form (asked_by c.in-Some.form) _ _ _ asked c.answer.ensures.flash) (inr (inr (rw c.in-Ok.is at last)));
    }

pub returns-in-Err : goal.returns-in-Err
returns-in-Err g c =
    let old = outside (g.I.Inputs.state c.args.inputs.now) (g.F.Flash.state c.args.flash.now) (g.O.Sink.state c.args.out.now) (g.E.Sink.state c.args.err.now) in
    let new = outside (g.I.Inputs.state c.answer.new.inputs) (g.F.Flash.state c.answer.new.flash) (g.O.Sink.state c.answer.new.out) (g.E.Sink.state c.tell-in-Err.new.err) in
    let here = c.answer.ensures.answered (g.E.Sink.state c.args.err.now) (g.E.Sink.state c.tell-in-Err.new.err) in
    let answered = rw c.in-Err.is at here in
    let last = c.answer.ensures.failed_last in
    let form = form_of_strings c.args.words.now.items in
    let asked : form ≡ Some (asked_by c.in-Some.form) = sym c.words_of.ensures ∙ ap form_asked c.in-Some.is in
    record {
      ran = runs form old new _ (ran_refused form (asked_by c.in-Some.form) old new _ (event_of c.in-Err.refusal) asked c.tell-in-Err.ensures.status c.tell-in-Err.ensures.line answered)
          (uses_as form (asked_by c.in-Some.form) _ _ _ asked c.answer.ensures.flash) (refused_last old.out new.out (event_of c.in-Err.refusal) _ c.tell-in-Err.ensures.status (rw c.in-Err.is at last));
    }

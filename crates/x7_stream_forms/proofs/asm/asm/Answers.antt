use Rattle.std.proofs.Common.{sym, refl, []}
use Rattle.x7_forms.specs.Event.{event_of}
use Rattle.x7_forms.specs.ReadingStops.{limited}
use Rattle.x7_forms.specs.AskedForm as form
use Rattle.x7_forms.proofs.AskedLemmas.{about_by, unread_about}
use Rattle.x7_outcome.specs.Outcome.{asm_event}
use Rattle.x7_stream_forms.proofs.AsmLemmas.{asm_faulted, asm_given, asm_unread}
use Rattle.x7_stream_forms.proofs.StopLemmas.{asm_about}
use Rattle.x7_outcome.proofs.StopLemmas.{first_stops}
use Rattle.x7_forms.proofs.ResultLemmas.{handed_on}
use Rattle.x7_forms.specs.Known.{text_limit}
use Rattle.x7_stream_forms.proofs.asm.asm.Goals as goal

pub returns-in_err-read : goal.returns-in_err-read
returns-in_err-read g c = rw (handed_on c.from_residual.result c.in_err-read.field-0.0 c.from_residual.ensures) (let old = g.I.Inputs.state c.args.inputs.now in
    let new = g.I.Inputs.state c.feed_whole.new.inputs in
    let name = c.args.name.now in
    let event = event_of c.in_err-read.field-0.0 in
    record {
      caused = asm_unread old new name event c.in_err-read.ensures.refused;
      stops = first_stops (form.Asm name) (limited text_limit name) [] old new event refl c.feed_whole.ensures.asks.last c.feed_whole.ensures.asks.once (unread_about name event c.in_err-read.ensures.named);
      asks = c.feed_whole.ensures.asks.once;
      stays = c.feed_whole.ensures.asks.stays;
      no_fault = tt;
    })

pub returns-in-Ok : goal.returns-in-Ok
returns-in-Ok g c =
    let old = g.I.Inputs.state c.args.inputs.now in
    let new = g.I.Inputs.state c.feed_whole.new.inputs in
    let t = c.in_ok-read.ensures.read in
    record {
      caused = asm_given (λ v. v.items) old new c.args.name.now t.0 c.in_ok-read.read t.1 t.2 c.in-Ok.bytes c.in-Ok.is;
      stops = tt;
      asks = c.feed_whole.ensures.asks.once;
      stays = c.feed_whole.ensures.asks.stays;
      no_fault = c.in_ok-read.ensures.no_fault;
    }

pub returns-in-Err : goal.returns-in-Err
returns-in-Err g c =
    let old = g.I.Inputs.state c.args.inputs.now in
    let new = g.I.Inputs.state c.feed_whole.new.inputs in
    let name = c.args.name.now in
    let event = event_of c.refusal_of.result in
    let t = c.in_ok-read.ensures.read in
    record {
      caused = asm_faulted (λ v. v.items) old new name t.0 c.in_ok-read.read t.1 t.2 c.in-Err.fault event c.in-Err.is (sym c.refusal_of.ensures);
      stops = first_stops (form.Asm name) (limited text_limit name) [] old new event refl c.feed_whole.ensures.asks.last c.feed_whole.ensures.asks.once (about_by name event (asm_event name c.in-Err.fault) c.refusal_of.ensures (asm_about name c.in-Err.fault));
      asks = c.feed_whole.ensures.asks.once;
      stays = c.feed_whole.ensures.asks.stays;
      no_fault = tt;
    }

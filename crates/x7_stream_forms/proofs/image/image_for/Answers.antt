use Rattle.std.proofs.Common.{[], ◌∷◌, Err, inr, refl}
use Rattle.x7_words.proofs.InputLemmas.{few_on, stays_on}
use Rattle.x7_part.specs.Part.{PartData}
use Rattle.x7_forms.specs.AskedForm as form
use Rattle.x7_forms.specs.Known.{Answer, and_so, part_limit, part_known, stream_limit}
use Rattle.x7_forms.specs.Event.{event_of}
use Rattle.x7_forms.specs.ReadingStops.{limited}
use Rattle.x7_forms.specs.Step.{result_by}
use Rattle.x7_forms.proofs.ReadLemmas.{answers_end, answers_go, answers_stop, first_of, no_fault_on, part_steady}
use Rattle.x7_forms.proofs.ResultLemmas.{handed_on, err_weaker}
use Rattle.x7_forms.proofs.AskedLemmas.{stops_after, no_part_about}
use Rattle.x7_outcome.specs.Outcome.{ImageStreams, image_by, image_streams}
use Rattle.x7_outcome.specs.Ready.{bytes_answer}
use Rattle.x7_stream_forms.specs.Image.{streams_of}
use Rattle.x7_outcome.proofs.ReadyLemmas.{at_ok}
use Rattle.x7_stream_forms.proofs.ReadyLemmas.{image_due, streams_steady}
use Rattle.x7_outcome.proofs.StopLemmas.{first_asked, result_stops, third_stops, among_stops, first_stops}
use Rattle.x7_stream_forms.proofs.image.image_for.Goals as goal

pub returns-in_err-part : goal.returns-in_err-part
returns-in_err-part g c = rw (handed_on c.from_residual.result c.in_err-part.field-0.0 c.from_residual.ensures) (let old = g.I.Inputs.state c.args.inputs.now in
    let new = g.I.Inputs.state c.read_part.new.inputs in
    let part = c.args.part_name.now in
    let golden = c.args.golden_name.now in
    let update = c.args.update_name.now in
    let event = event_of c.in_err-part.field-0.0 in
    record {
      caused = answers_stop PartData Answer (part ∷ []) (part ∷ golden ∷ update ∷ []) old new (λ t. part_known t part) (λ t p. and_so (image_streams t golden update) (image_by update p.start_unit)) event (first_of part (golden ∷ update ∷ [])) c.in_err-part.ensures.caused;
      stops = first_stops (form.ImageFor part golden update) (limited part_limit part) (limited stream_limit golden ∷ limited stream_limit update ∷ []) old new event refl c.read_part.ensures.asks.last c.read_part.ensures.asks.once (no_part_about part event c.in_err-part.ensures.named);
      asks = first_asked part (golden ∷ update ∷ []) old new c.read_part.ensures.asks.once;
      stays = c.read_part.ensures.asks.stays;
      no_fault = tt;
    })

pub returns : goal.returns
returns g c =
    let old = g.I.Inputs.state c.args.inputs.now in
    let mid = g.I.Inputs.state c.read_part.new.inputs in
    let new = g.I.Inputs.state c.read_streams.new.inputs in
    let part = c.args.part_name.now in
    let golden = c.args.golden_name.now in
    let update = c.args.update_name.now in
    let known = c.in_ok-part.part in
    let streams = streams_of c.in_ok-streams.streams in
    let made = c.image_by_part.result in
    let asks = few_on old mid new 1 2 c.read_part.ensures.asks.once c.read_streams.ensures.asks in
    record {
      caused = answers_go PartData Answer (part ∷ []) (golden ∷ update ∷ []) (part ∷ golden ∷ update ∷ []) old mid new (λ t. part_known t part) (λ t p. and_so (image_streams t golden update) (image_by update p.start_unit)) known (result_by bytes_answer made)
          (part_steady part) c.read_part.ensures.asks.stays c.read_streams.ensures.inputs (λ n h. inr h) c.in_ok-part.ensures.caused
          (answers_end ImageStreams Answer (golden ∷ update ∷ []) mid new (λ t. image_streams t golden update) (image_by update known.start_unit) streams (result_by bytes_answer made) (streams_steady golden update) c.in_ok-streams.ensures.caused
          (image_due update known.start_unit streams made c.image_by_part.ensures.text c.image_by_part.ensures.refused));
      stops = result_stops bytes_answer (form.ImageFor part golden update) old new made (err_weaker made
          (λ r a. third_stops (form.ImageFor part golden update) (limited part_limit part) (limited stream_limit golden) (limited stream_limit update) [] old new (event_of r) refl c.in_ok-streams.ensures.last_asked asks a) c.image_by_part.ensures.named);
      asks = asks;
      stays = stays_on _ _ _ c.read_part.ensures.asks.stays c.read_streams.ensures.inputs;
      no_fault = at_ok (result_by bytes_answer made) (no_fault_on _ _ _ c.in_ok-part.ensures.no_fault c.in_ok-streams.ensures.no_fault);
    }

pub returns-in_err-streams : goal.returns-in_err-streams
returns-in_err-streams g c = rw (handed_on c.from_residual-in_err-streams.result c.in_err-streams.field-0.0 c.from_residual-in_err-streams.ensures) (let old = g.I.Inputs.state c.args.inputs.now in
    let mid = g.I.Inputs.state c.read_part.new.inputs in
    let new = g.I.Inputs.state c.read_streams.new.inputs in
    let part = c.args.part_name.now in
    let golden = c.args.golden_name.now in
    let update = c.args.update_name.now in
    let event = event_of c.in_err-streams.field-0.0 in
    let asks = few_on old mid new 1 2 c.read_part.ensures.asks.once c.read_streams.ensures.asks in
    record {
      caused = answers_go PartData Answer (part ∷ []) (golden ∷ update ∷ []) (part ∷ golden ∷ update ∷ []) old mid new (λ t. part_known t part) (λ t p. and_so (image_streams t golden update) (image_by update p.start_unit)) c.in_ok-part.part (Err event)
          (part_steady part) c.read_part.ensures.asks.stays c.read_streams.ensures.inputs (λ n h. inr h) c.in_ok-part.ensures.caused
          (answers_stop ImageStreams Answer (golden ∷ update ∷ []) (golden ∷ update ∷ []) mid new (λ t. image_streams t golden update) (λ t. image_by update c.in_ok-part.part.start_unit) event (λ n h. h) c.in_err-streams.ensures.caused);
      stops = among_stops (form.ImageFor part golden update) old new event
          (stops_after (limited part_limit part) (limited stream_limit golden ∷ limited stream_limit update ∷ []) old mid new event c.read_part.ensures.asks.once c.in_err-streams.ensures.stops);
      asks = asks;
      stays = stays_on _ _ _ c.read_part.ensures.asks.stays c.read_streams.ensures.inputs;
      no_fault = tt;
    })

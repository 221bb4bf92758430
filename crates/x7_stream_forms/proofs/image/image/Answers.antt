use Rattle.std.proofs.Common.{refl, ◌∷◌, []}
use Rattle.x7_forms.specs.AskedForm as form
use Rattle.x7_forms.specs.Known.{Answer, stream_limit}
use Rattle.x7_forms.specs.Event.{event_of}
use Rattle.x7_forms.specs.ReadingStops.{limited}
use Rattle.x7_forms.specs.Step.{result_by}
use Rattle.x7_forms.proofs.ReadLemmas.{answers_end, answers_stop}
use Rattle.x7_forms.proofs.ResultLemmas.{handed_on, err_weaker}
use Rattle.x7_outcome.specs.Outcome.{ImageStreams, image_by, image_streams}
use Rattle.x7_outcome.specs.Ready.{bytes_answer}
use Rattle.x7_stream_forms.specs.Image.{streams_of}
use Rattle.x7_outcome.proofs.ReadyLemmas.{at_ok}
use Rattle.x7_stream_forms.proofs.ReadyLemmas.{image_due, streams_steady}
use Rattle.x7_outcome.proofs.StopLemmas.{result_stops, among_stops, second_stops}
use Rattle.x7_stream_forms.proofs.image.image.Goals as goal

pub returns : goal.returns
returns g c =
    let old = g.I.Inputs.state c.args.inputs.now in
    let new = g.I.Inputs.state c.read_streams.new.inputs in
    let golden = c.args.golden_name.now in
    let update = c.args.update_name.now in
    let streams = streams_of c.in_ok-streams.streams in
    let made = c.image_by_bytes.result in
    record {
      caused = answers_end ImageStreams Answer (golden ∷ update ∷ []) old new (λ t. image_streams t golden update) (image_by update 1) streams (result_by bytes_answer made)
          (streams_steady golden update) c.in_ok-streams.ensures.caused (image_due update 1 streams made c.image_by_bytes.ensures.text c.image_by_bytes.ensures.refused);
      stops = result_stops bytes_answer (form.Image golden update) old new made (err_weaker made
          (λ r a. second_stops (form.Image golden update) (limited stream_limit golden) (limited stream_limit update) [] old new (event_of r) refl c.in_ok-streams.ensures.last_asked c.read_streams.ensures.asks a) c.image_by_bytes.ensures.named);
      asks = c.read_streams.ensures.asks;
      stays = c.read_streams.ensures.inputs;
      no_fault = at_ok (result_by bytes_answer made) c.in_ok-streams.ensures.no_fault;
    }

pub returns-in_err-streams : goal.returns-in_err-streams
returns-in_err-streams g c = rw (handed_on c.from_residual.result c.in_err-streams.field-0.0 c.from_residual.ensures) (let old = g.I.Inputs.state c.args.inputs.now in
    let new = g.I.Inputs.state c.read_streams.new.inputs in
    let golden = c.args.golden_name.now in
    let update = c.args.update_name.now in
    let event = event_of c.in_err-streams.field-0.0 in
    record {
      caused = answers_stop ImageStreams Answer (golden ∷ update ∷ []) (golden ∷ update ∷ []) old new (λ t. image_streams t golden update) (λ t. image_by update 1) event (λ n h. h) c.in_err-streams.ensures.caused;
      stops = among_stops (form.Image golden update) old new event c.in_err-streams.ensures.stops;
      asks = c.read_streams.ensures.asks;
      stays = c.read_streams.ensures.inputs;
      no_fault = tt;
    })

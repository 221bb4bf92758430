use Rattle.std.proofs.Common.{ℕ, List, [], ◌∷◌, Err, inr, map, string_bytes, inl, refl}
use Rattle.x7_part.specs.Part.{PartData}
use Rattle.x7_forms.specs.Event.{event_of}
use Rattle.x7_forms.specs.Known.{Answer, and_so, streams_known, part_known, stream_limit, part_limit}
use Rattle.x7_outcome.specs.Play.{reported, play_answer}
use Rattle.x7_forms.specs.Step.{result_by}
use Rattle.x7_device_forms.proofs.PlayLemmas.{text_ends}
use Rattle.x7_forms.proofs.ReadLemmas.{answers_end, answers_go, answers_stop, data_steady, first_of, no_fault_on, part_steady}
use Rattle.x7_forms.specs.AskedForm as form
use Rattle.x7_forms.proofs.ResultLemmas.{handed_on, err_weaker}
use Rattle.x7_words.proofs.InputLemmas.{stays_on}
use Rattle.x7_outcome.proofs.ReadyLemmas.{at_ok}
use Rattle.x7_outcome.proofs.StopLemmas.{first_asked, first_stops}
use Rattle.x7_device_forms.proofs.StopLemmas.{streams_asked, reads_only, streams_stop}
use Rattle.x7_forms.specs.ReadingStops.{limited_together, limited}
use Rattle.x7_forms.proofs.AskedLemmas.{no_part_about}
use Rattle.x7_device_forms.proofs.play.play.Goals as goal

pub returns-in_err-part : goal.returns-in_err-part
returns-in_err-part g c = rw (handed_on c.from_residual.result c.in_err-part.field-0.0 c.from_residual.ensures) (let i = g.I.Inputs in
    let part = c.args.part_name.now in
    let streams = map string_bytes c.args.streams.now in
    record {
      caused = answers_stop PartData Answer (part ∷ []) (part ∷ streams) (i.state c.args.inputs.now) (i.state c.read_part.new.inputs) (λ t. part_known t part) (λ t p. and_so (streams_known t stream_limit streams) (reported p)) (event_of c.in_err-part.field-0.0)
          (first_of part streams) c.in_err-part.ensures.caused;
      stops = first_stops (form.Play c.args.part_name.now (map string_bytes c.args.streams.now)) (limited part_limit c.args.part_name.now)
          (limited_together (g.I.Inputs.state c.read_part.new.inputs).contents stream_limit (map string_bytes c.args.streams.now)) (g.I.Inputs.state c.args.inputs.now)
          (g.I.Inputs.state c.read_part.new.inputs) (event_of c.in_err-part.field-0.0) refl c.read_part.ensures.asks.last c.read_part.ensures.asks.once
          (no_part_about c.args.part_name.now (event_of c.in_err-part.field-0.0) c.in_err-part.ensures.named);
      asks = first_asked c.args.part_name.now (map string_bytes c.args.streams.now) (g.I.Inputs.state c.args.inputs.now) (g.I.Inputs.state c.read_part.new.inputs) c.read_part.ensures.asks.once;
      stays = c.read_part.ensures.asks.stays;
      no_fault = tt;
    })

pub returns-in_err-player : goal.returns-in_err-player
returns-in_err-player g c = rw (handed_on c.from_residual-in_err-player.result c.in_err-player.field-0.0 c.from_residual-in_err-player.ensures) (let i = g.I.Inputs in
    let part = c.args.part_name.now in
    let streams = map string_bytes c.args.streams.now in
    let event = event_of c.in_err-player.field-0.0 in
    record {
      caused = answers_go PartData Answer (part ∷ []) streams (part ∷ streams) (i.state c.args.inputs.now) (i.state c.read_part.new.inputs) (i.state c.play_streams.new.inputs) (λ t. part_known t part) (λ t p. and_so (streams_known t stream_limit streams) (reported p)) c.in_ok-part.part (Err event)
          (part_steady part) c.read_part.ensures.asks.stays c.play_streams.ensures.inputs (λ n h. inr h) c.in_ok-part.ensures.caused
          (answers_stop (List ℕ) Answer streams streams (i.state c.read_part.new.inputs) (i.state c.play_streams.new.inputs) (λ t. streams_known t stream_limit streams) (λ t. reported c.in_ok-part.part) event (λ n h. h) c.in_err-player.ensures.refused);
      stops = streams_stop c.args.part_name.now (map string_bytes c.args.streams.now) (g.I.Inputs.state c.args.inputs.now) (g.I.Inputs.state c.read_part.new.inputs)
          (g.I.Inputs.state c.play_streams.new.inputs) (event_of c.in_err-player.field-0.0) c.read_part.ensures.asks.once c.in_err-player.ensures.stops;
      asks = streams_asked string_bytes c.args.part_name.now c.args.streams.now (g.I.Inputs.state c.args.inputs.now) (g.I.Inputs.state c.read_part.new.inputs) (g.I.Inputs.state c.play_streams.new.inputs) c.read_part.ensures.asks.once c.play_streams.ensures.asks;
      stays = stays_on _ _ _ c.read_part.ensures.asks.stays c.play_streams.ensures.inputs;
      no_fault = tt;
    })

pub returns : goal.returns
returns g c =
    let i = g.I.Inputs in
    let part = c.args.part_name.now in
    let streams = map string_bytes c.args.streams.now in
    let p = c.in_ok-player.ensures.played in
    record {
      caused = answers_go PartData Answer (part ∷ []) streams (part ∷ streams) (i.state c.args.inputs.now) (i.state c.read_part.new.inputs) (i.state c.play_streams.new.inputs)
          (λ t. part_known t part) (λ t p. and_so (streams_known t stream_limit streams) (reported p)) c.in_ok-part.part (result_by play_answer c.text_of.result)
          (part_steady part) c.read_part.ensures.asks.stays c.play_streams.ensures.inputs (λ n h. inr h) c.in_ok-part.ensures.caused
          (answers_end (List ℕ) Answer streams (i.state c.read_part.new.inputs) (i.state c.play_streams.new.inputs) (λ t. streams_known t stream_limit streams) (reported c.in_ok-part.part) p.0 (result_by play_answer c.text_of.result) (data_steady streams stream_limit) p.2
          (text_ends c.in_ok-part.part p.0 c.in_ok-player.player c.text_of.result p.1 c.text_of.ensures.text c.text_of.ensures.refused));
      stops = reads_only play_answer c.args.part_name.now (map string_bytes c.args.streams.now) (g.I.Inputs.state c.args.inputs.now)
          (g.I.Inputs.state c.play_streams.new.inputs) c.text_of.result (err_weaker c.text_of.result (λ r h. elim h [ inl e ↦ inl e | inr e ↦ inr e.0 ]) c.text_of.ensures.refused);
      asks = streams_asked string_bytes c.args.part_name.now c.args.streams.now (g.I.Inputs.state c.args.inputs.now) (g.I.Inputs.state c.read_part.new.inputs) (g.I.Inputs.state c.play_streams.new.inputs) c.read_part.ensures.asks.once c.play_streams.ensures.asks;
      stays = stays_on _ _ _ c.read_part.ensures.asks.stays c.play_streams.ensures.inputs;
      no_fault = at_ok (result_by play_answer c.text_of.result) (no_fault_on _ _ _ c.in_ok-part.ensures.no_fault c.in_ok-player.ensures.no_fault);
    }

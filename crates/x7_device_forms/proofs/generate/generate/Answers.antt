use Rattle.std.proofs.Common.{Ok, refl, ◌∷◌, []}
use Rattle.x7_part.specs.Part.{PartData}
use Rattle.x7_forms.specs.AskedForm as form
use Rattle.x7_forms.specs.Known.{Answer, part_limit, part_known}
use Rattle.x7_forms.specs.Event.{event_of}
use Rattle.x7_forms.specs.ReadingStops.{limited}
use Rattle.x7_forms.specs.Step.{result_by}
use Rattle.x7_forms.proofs.ReadLemmas.{answers_end, answers_stop, part_steady}
use Rattle.x7_forms.proofs.AskedLemmas.{no_part_about}
use Rattle.x7_outcome.specs.Outcome.{gen_answer}
use Rattle.x7_outcome.specs.Ready.{bytes_answer}
use Rattle.x7_device_forms.proofs.ReadyLemmas.{made_due}
use Rattle.x7_outcome.proofs.ReadyLemmas.{at_ok}
use Rattle.x7_outcome.proofs.StopLemmas.{want_only, first_stops}
use Rattle.x7_forms.proofs.ResultLemmas.{handed_on}
use Rattle.x7_device_forms.proofs.generate.generate.Goals as goal

pub returns-in_err-part : goal.returns-in_err-part
returns-in_err-part g c = rw (handed_on c.from_residual.result c.in_err-part.field-0.0 c.from_residual.ensures) (let old = g.I.Inputs.state c.args.inputs.now in
    let new = g.I.Inputs.state c.read_part.new.inputs in
    let name = c.args.part_name.now in
    let seed = c.args.seed in
    let event = event_of c.in_err-part.field-0.0 in
    record {
      caused = answers_stop PartData Answer (name ∷ []) (name ∷ []) old new (λ t. part_known t name) (λ t p. Ok (gen_answer p seed)) event (λ n h. h) c.in_err-part.ensures.caused;
      stops = first_stops (form.Gen name seed) (limited part_limit name) [] old new event refl c.read_part.ensures.asks.last c.read_part.ensures.asks.once (no_part_about name event c.in_err-part.ensures.named);
      asks = c.read_part.ensures.asks.once;
      stays = c.read_part.ensures.asks.stays;
      no_fault = tt;
    })

pub returns : goal.returns
returns g c =
    let old = g.I.Inputs.state c.args.inputs.now in
    let new = g.I.Inputs.state c.read_part.new.inputs in
    let name = c.args.part_name.now in
    let seed = c.args.seed in
    let part = c.in_ok-part.part in
    let made = c.summary_of.result in
    record {
      caused = answers_end PartData Answer (name ∷ []) old new (λ t. part_known t name) (λ p. Ok (gen_answer p seed)) part (result_by bytes_answer made) (part_steady name) c.in_ok-part.ensures.caused (made_due (gen_answer part seed) made c.summary_of.ensures.text c.summary_of.ensures.refused);
      stops = want_only bytes_answer (form.Gen name seed) old new made c.summary_of.ensures.refused;
      asks = c.read_part.ensures.asks.once;
      stays = c.read_part.ensures.asks.stays;
      no_fault = at_ok (result_by bytes_answer made) c.in_ok-part.ensures.no_fault;
    }

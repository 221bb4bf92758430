use Rattle.std.proofs.Common.{refl, ◌∷◌, []}
use Rattle.x7_part.specs.Part.{PartData}
use Rattle.x7_forms.specs.AskedForm as form
use Rattle.x7_forms.specs.Known.{Answer, part_limit, part_known}
use Rattle.x7_forms.specs.Event.{event_of}
use Rattle.x7_forms.specs.ReadingStops.{limited}
use Rattle.x7_forms.specs.Step.{result_by}
use Rattle.x7_forms.proofs.ReadLemmas.{answers_by, answers_kept}
use Rattle.x7_forms.proofs.ResultLemmas.{handed_on, err_weaker}
use Rattle.x7_forms.proofs.AskedLemmas.{no_part_about}
use Rattle.x7_outcome.specs.Outcome.{PlannedRead}
use Rattle.x7_outcome.specs.Ready.{bytes_answer}
use Rattle.x7_outcome.proofs.ReadyLemmas.{at_ok}
use Rattle.x7_stream_forms.proofs.ReadyLemmas.{read_due}
use Rattle.x7_outcome.proofs.StopLemmas.{result_stops, first_stops}
use Rattle.x7_stream_forms.proofs.plan.plan_read.Goals as goal

pub returns-in_err-part : goal.returns-in_err-part
returns-in_err-part g c = rw (handed_on c.from_residual.result c.in_err-part.field-0.0 c.from_residual.ensures) (let old = g.I.Inputs.state c.args.inputs.now in
    let new = g.I.Inputs.state c.read_part.new.inputs in
    let name = c.args.part_name.now in
    let event = event_of c.in_err-part.field-0.0 in
    record {
      caused = answers_kept PartData Answer (name ∷ []) old new (λ t. part_known t name) (PlannedRead name c.args.far c.args.slot_count) event (λ x. refl) c.in_err-part.ensures.caused;
      stops = first_stops (form.PlanRead name c.args.far c.args.slot_count) (limited part_limit name) [] old new event refl c.read_part.ensures.asks.last c.read_part.ensures.asks.once (no_part_about name event c.in_err-part.ensures.named);
      asks = c.read_part.ensures.asks.once;
      stays = c.read_part.ensures.asks.stays;
      no_fault = tt;
    })

pub returns : goal.returns
returns g c =
    let old = g.I.Inputs.state c.args.inputs.now in
    let new = g.I.Inputs.state c.read_part.new.inputs in
    let name = c.args.part_name.now in
    let part = c.in_ok-part.part in
    let made = c.readback_text.result in
    record {
      caused = answers_by PartData Answer (name ∷ []) old new (λ t. part_known t name) part (PlannedRead name c.args.far c.args.slot_count) (result_by bytes_answer made) c.in_ok-part.ensures.caused
          (read_due name part c.args.far c.args.slot_count made c.readback_text.ensures.text c.readback_text.ensures.refused);
      stops = result_stops bytes_answer (form.PlanRead name c.args.far c.args.slot_count) old new made
          (err_weaker made (λ r a. first_stops (form.PlanRead name c.args.far c.args.slot_count) (limited part_limit name) [] old new
          (event_of r) refl c.read_part.ensures.asks.last c.read_part.ensures.asks.once a) c.readback_text.ensures.named);
      asks = c.read_part.ensures.asks.once;
      stays = c.read_part.ensures.asks.stays;
      no_fault = at_ok (result_by bytes_answer made) c.in_ok-part.ensures.no_fault;
    }

use Rattle.std.proofs.Common.{refl, ◌∷◌, []}
use Rattle.x7_forms.specs.AskedForm as form
use Rattle.x7_forms.specs.Known.{Answer, part_limit, text_limit}
use Rattle.x7_forms.specs.Event.{event_of}
use Rattle.x7_forms.specs.ReadingStops.{limited}
use Rattle.x7_forms.specs.Step.{result_by}
use Rattle.x7_forms.proofs.ReadLemmas.{answers_by, answers_kept}
use Rattle.x7_forms.proofs.ResultLemmas.{handed_on, err_weaker}
use Rattle.x7_outcome.specs.Outcome.{PartAndText, PlayedSvf, part_and_text}
use Rattle.x7_outcome.specs.Play.{play_answer}
use Rattle.x7_device_forms.specs.Svf.{svf_given}
use Rattle.x7_device_forms.proofs.ReadyLemmas.{svf_due}
use Rattle.x7_outcome.proofs.ReadyLemmas.{at_ok}
use Rattle.x7_outcome.proofs.StopLemmas.{result_stops, among_stops, second_stops}
use Rattle.x7_device_forms.proofs.StopLemmas.{svf_played_about}
use Rattle.x7_device_forms.proofs.svf.svf.Goals as goal

pub returns : goal.returns
returns g c =
    let old = g.I.Inputs.state c.args.inputs.now in
    let new = g.I.Inputs.state c.read_given.new.inputs in
    let part = c.args.part_name.now in
    let text = c.args.text_name.now in
    let given = svf_given c.in_ok-given.given in
    let made = c.text_of.result in
    record {
      caused = answers_by PartAndText Answer (part ∷ text ∷ []) old new (λ t. part_and_text t part text) given (PlayedSvf text) (result_by play_answer made) c.in_ok-given.ensures.caused (svf_due text given made c.text_of.ensures.text c.text_of.ensures.refused);
      stops = result_stops play_answer (form.Svf part text) old new made (err_weaker made
          (λ r h. second_stops (form.Svf part text) (limited part_limit part) (limited text_limit text) [] old new (event_of r) refl c.in_ok-given.ensures.last_asked c.read_given.ensures.asks (svf_played_about text given (event_of r) h))
          c.text_of.ensures.refused);
      asks = c.read_given.ensures.asks;
      stays = c.read_given.ensures.inputs;
      no_fault = at_ok (result_by play_answer made) c.in_ok-given.ensures.no_fault;
    }

pub returns-in_err-given : goal.returns-in_err-given
returns-in_err-given g c = rw (handed_on c.from_residual.result c.in_err-given.field-0.0 c.from_residual.ensures) (let old = g.I.Inputs.state c.args.inputs.now in
    let new = g.I.Inputs.state c.read_given.new.inputs in
    let part = c.args.part_name.now in
    let text = c.args.text_name.now in
    let event = event_of c.in_err-given.field-0.0 in
    record {
      caused = answers_kept PartAndText Answer (part ∷ text ∷ []) old new (λ t. part_and_text t part text) (PlayedSvf text) event (λ x. refl) c.in_err-given.ensures.caused;
      stops = among_stops (form.Svf part text) old new event c.in_err-given.ensures.stops;
      asks = c.read_given.ensures.asks;
      stays = c.read_given.ensures.inputs;
      no_fault = tt;
    })

use Rattle.std.proofs.Common.{refl, ◌∷◌, []}
use Rattle.x7_forms.specs.AskedForm as form
use Rattle.x7_forms.specs.Known.{Answer, part_limit, stream_limit, script_limit}
use Rattle.x7_forms.specs.Event.{event_of}
use Rattle.x7_forms.specs.ReadingStops.{limited}
use Rattle.x7_forms.proofs.ReadLemmas.{answers_by, answers_kept}
use Rattle.x7_forms.proofs.ResultLemmas.{handed_on, err_weaker}
use Rattle.x7_device_forms.specs.Debug.{debug_given}
use Rattle.x7_outcome.specs.Outcome.{DebugInputs, DebuggedAs, debug_inputs}
use Rattle.x7_outcome.specs.Ready.{text_answer}
use Rattle.x7_forms.specs.Step.{result_by}
use Rattle.x7_device_forms.proofs.ReadyLemmas.{debug_due}
use Rattle.x7_device_forms.proofs.StopLemmas.{debug_about}
use Rattle.x7_outcome.proofs.ReadyLemmas.{at_ok}
use Rattle.x7_outcome.proofs.StopLemmas.{result_stops, among_stops, third_stops}
use Rattle.x7_device_forms.proofs.debug.debug.Goals as goal

pub returns : goal.returns
returns g c =
    let old = g.I.Inputs.state c.args.inputs.now in
    let new = g.I.Inputs.state c.read_given.new.inputs in
    let part = c.args.part_name.now in
    let stream = c.args.stream_name.now in
    let script = c.args.script_name.now in
    let given = debug_given c.in_ok-given.given in
    let made = c.text_of.result in
    record {
      caused = answers_by DebugInputs Answer (part ∷ stream ∷ script ∷ []) old new (λ t. debug_inputs t part stream script) given (DebuggedAs script) (result_by text_answer made) c.in_ok-given.ensures.caused (debug_due script given made c.text_of.ensures.text c.text_of.ensures.refused);
      stops = result_stops text_answer (form.Debug part stream script) old new made (err_weaker made
          (λ r h. third_stops (form.Debug part stream script) (limited part_limit part) (limited stream_limit stream) (limited script_limit script) [] old new (event_of r) refl c.in_ok-given.ensures.last_asked c.read_given.ensures.asks (debug_about script given (event_of r) h))
          c.text_of.ensures.refused);
      asks = c.read_given.ensures.asks;
      stays = c.read_given.ensures.inputs;
      no_fault = at_ok (result_by text_answer made) c.in_ok-given.ensures.no_fault;
    }

pub returns-in_err-given : goal.returns-in_err-given
returns-in_err-given g c = rw (handed_on c.from_residual.result c.in_err-given.field-0.0 c.from_residual.ensures) (let old = g.I.Inputs.state c.args.inputs.now in
    let new = g.I.Inputs.state c.read_given.new.inputs in
    let part = c.args.part_name.now in
    let stream = c.args.stream_name.now in
    let script = c.args.script_name.now in
    let event = event_of c.in_err-given.field-0.0 in
    record {
      caused = answers_kept DebugInputs Answer (part ∷ stream ∷ script ∷ []) old new (λ t. debug_inputs t part stream script) (DebuggedAs script) event (λ x. refl) c.in_err-given.ensures.caused;
      stops = among_stops (form.Debug part stream script) old new event c.in_err-given.ensures.stops;
      asks = c.read_given.ensures.asks;
      stays = c.read_given.ensures.inputs;
      no_fault = tt;
    })

use Rattle.std.proofs.Common.{refl, ◌∷◌, []}
use Rattle.x7_forms.specs.Event.{event_of}
use Rattle.x7_forms.specs.Step.{result_by}
use Rattle.x7_outcome.specs.Outcome.{PlannedFull}
use Rattle.x7_stream_forms.specs.FullText.{full_answer}
use Rattle.x7_outcome.proofs.ReadyLemmas.{at_ok}
use Rattle.x7_stream_forms.proofs.PlanLemmas.{full_ended, part_refused, plan_addressed, plan_refused, planned_end}
use Rattle.x7_forms.specs.AskedForm as form
use Rattle.x7_forms.specs.Known.{part_limit, text_limit}
use Rattle.x7_words.proofs.InputLemmas.{stays_on}
use Rattle.x7_outcome.proofs.StopLemmas.{both_asked, first_asked, want_only, among_stops, first_stops}
use Rattle.x7_forms.proofs.ReadLemmas.{no_fault_on}
use Rattle.x7_forms.proofs.AskedLemmas.{no_part_about, stops_after}
use Rattle.x7_forms.specs.ReadingStops.{limited}
use Rattle.x7_forms.proofs.ResultLemmas.{handed_on}
use Rattle.x7_stream_forms.proofs.plan.plan_full.Goals as goal

pub returns-in_err-part : goal.returns-in_err-part
returns-in_err-part g c = rw (handed_on c.from_residual.result c.in_err-part.field-0.0 c.from_residual.ensures) (let i = g.I.Inputs in
    record {
      caused = part_refused c.args.part_name.now c.args.frames_name.now (i.state c.args.inputs.now) (i.state c.read_part.new.inputs) (i.state c.read_part.new.inputs) (PlannedFull c.args.frames_name.now) (λ x. refl) (event_of c.in_err-part.field-0.0) c.in_err-part.ensures.caused;
      stops = first_stops (form.PlanFull c.args.part_name.now c.args.frames_name.now) (limited part_limit c.args.part_name.now) (limited text_limit c.args.frames_name.now ∷ []) (g.I.Inputs.state c.args.inputs.now)
          (g.I.Inputs.state c.read_part.new.inputs) (event_of c.in_err-part.field-0.0) refl c.read_part.ensures.asks.last c.read_part.ensures.asks.once
          (no_part_about c.args.part_name.now (event_of c.in_err-part.field-0.0) c.in_err-part.ensures.named);
      asks = first_asked c.args.part_name.now (c.args.frames_name.now ∷ []) (g.I.Inputs.state c.args.inputs.now) (g.I.Inputs.state c.read_part.new.inputs) c.read_part.ensures.asks.once;
      stays = c.read_part.ensures.asks.stays;
      no_fault = tt;
    })

pub returns-in_err-plan : goal.returns-in_err-plan
returns-in_err-plan g c = rw (handed_on c.from_residual-in_err-plan.result c.in_err-plan.field-0.0 c.from_residual-in_err-plan.ensures) (let i = g.I.Inputs in
    record {
      caused = plan_refused c.args.part_name.now c.args.frames_name.now (i.state c.args.inputs.now) (i.state c.read_part.new.inputs) (i.state c.read_plan.new.inputs) (PlannedFull c.args.frames_name.now) (λ x. refl) c.in_ok-part.part (event_of c.in_err-plan.field-0.0)
          c.read_part.ensures.asks.stays c.read_plan.ensures.inputs c.in_ok-part.ensures.caused (λ text h. h) c.in_err-plan.ensures.caused;
      stops = among_stops (form.PlanFull c.args.part_name.now c.args.frames_name.now) (g.I.Inputs.state c.args.inputs.now) (g.I.Inputs.state c.read_plan.new.inputs) (event_of c.in_err-plan.field-0.0)
          (stops_after (limited part_limit c.args.part_name.now) (limited text_limit c.args.frames_name.now ∷ []) (g.I.Inputs.state c.args.inputs.now) (g.I.Inputs.state c.read_part.new.inputs) (g.I.Inputs.state c.read_plan.new.inputs)
          (event_of c.in_err-plan.field-0.0) c.read_part.ensures.asks.once c.in_err-plan.ensures.stops);
      asks = both_asked (g.I.Inputs.state c.args.inputs.now) (g.I.Inputs.state c.read_part.new.inputs) (g.I.Inputs.state c.read_plan.new.inputs) c.read_part.ensures.asks.once c.read_plan.ensures.asks;
      stays = stays_on _ _ _ c.read_part.ensures.asks.stays c.read_plan.ensures.inputs;
      no_fault = tt;
    })

pub returns : goal.returns
returns g c =
    let i = g.I.Inputs in
    let t = c.in_ok-plan.ensures.caused in
    record {
      caused = planned_end c.args.part_name.now c.args.frames_name.now (i.state c.args.inputs.now) (i.state c.read_part.new.inputs) (i.state c.read_plan.new.inputs) (PlannedFull c.args.frames_name.now) (λ x. refl) c.in_ok-part.part t.0 (result_by full_answer c.new.result)
          c.read_part.ensures.asks.stays c.read_plan.ensures.inputs c.in_ok-part.ensures.caused t.1 (full_ended c.args.frames_name.now c.in_ok-part.part t.0 c.in_ok-plan.plan c.new.result t.2 c.new.ensures.part c.new.ensures.plan c.new.ensures.refused);
      stops = want_only full_answer (form.PlanFull c.args.part_name.now c.args.frames_name.now) (g.I.Inputs.state c.args.inputs.now) (g.I.Inputs.state c.read_plan.new.inputs) c.new.result c.new.ensures.refused;
      asks = both_asked (g.I.Inputs.state c.args.inputs.now) (g.I.Inputs.state c.read_part.new.inputs) (g.I.Inputs.state c.read_plan.new.inputs) c.read_part.ensures.asks.once c.read_plan.ensures.asks;
      stays = stays_on _ _ _ c.read_part.ensures.asks.stays c.read_plan.ensures.inputs;
      no_fault = at_ok (result_by full_answer c.new.result) (no_fault_on _ _ _ c.in_ok-part.ensures.no_fault c.in_ok-plan.ensures.no_fault);
    }

pub new-requires-clause-addresses : goal.new-requires-clause-addresses
new-requires-clause-addresses g c = let t = c.in_ok-plan.ensures.caused in plan_addressed c.in_ok-part.part t.0 c.in_ok-plan.plan t.2

use Rattle.x7_forms.specs.Event.{event_of}
use Rattle.x7_outcome.specs.Outcome.{planner_event}
use Rattle.x7_forms.proofs.AskedLemmas.{about_by}
use Rattle.x7_stream_forms.proofs.StopLemmas.{planner_about}
use Rattle.x7_stream_forms.proofs.plan.partial_text.Goals as goal

pub returns-in-Err-clause-named : goal.returns-in-Err-clause-named
returns-in-Err-clause-named c = about_by c.args.frames_name.now (event_of c.planner_refusal.result) (planner_event c.args.frames_name.now c.in-Err.fault) c.planner_refusal.ensures (planner_about c.args.frames_name.now c.in-Err.fault)

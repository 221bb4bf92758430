use Rattle.std.proofs.Common.{ℕ, List, [], ◌∷◌, Ok, subst, sym}
use Rattle.x7_forms.specs.Step.{AnswersAs, step_over}
use Rattle.x7_forms.proofs.ResultLemmas.{handed_on}
use Rattle.x7_outcome.specs.Outcome.{stream_data}
use Rattle.x7_outcome.proofs.stream.read_data.Goals as goal

pub returns-in_err-stream-clause-caused : goal.returns-in_err-stream-clause-caused
returns-in_err-stream-clause-caused g c = rw (handed_on c.from_residual.result c.in_err-stream.field-0.0 c.from_residual.ensures) c.in_err-stream.ensures.caused

pub returns-in_err-stream-clause-named : goal.returns-in_err-stream-clause-named
returns-in_err-stream-clause-named g c = rw (handed_on c.from_residual.result c.in_err-stream.field-0.0 c.from_residual.ensures) c.in_err-stream.ensures.named

pub returns-clause-caused : goal.returns-clause-caused
returns-clause-caused g c =
    let i = g.I.Inputs in
    let name = c.args.name.now in
    subst (λ (content : List ℕ). AnswersAs (step_over (name ∷ []) (i.state c.args.inputs.now) (i.state c.read_stream.new.inputs)) (λ known. stream_data known name) (Ok content)) (sym c.into_data.ensures) c.in_ok-stream.ensures.caused

pub returns-in_err-stream-clause-memory : goal.returns-in_err-stream-clause-memory
returns-in_err-stream-clause-memory g c = rw (handed_on c.from_residual.result c.in_err-stream.field-0.0 c.from_residual.ensures) c.in_err-stream.ensures.memory

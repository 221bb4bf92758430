use Rattle.std.proofs.Common.{[], ◌∷◌, Ok, Err, ap, inl}
use Rattle.x7_forms.specs.Event.{event_of}
use Rattle.x7_forms.specs.Known.{part_by, part_event, part_limit, part_known, whole_known, with_inputs}
use Rattle.x7_part.specs.PartFile.{part_in}
use Rattle.x7_forms.specs.Step.{CameIn, step_over}
use Rattle.x7_forms.proofs.PartLemmas.{no_part, refused}
use Rattle.x7_forms.proofs.ReadLemmas.{after_text, caused_event, stops, works}
use Rattle.x7_forms.proofs.ResultLemmas.{handed_on}
use Rattle.x7_forms.proofs.part.read_part.Goals as goal

pub returns-in-Ok-clause-caused : goal.returns-in-Ok-clause-caused
returns-in-Ok-clause-caused g c = λ flash.
    let i = g.I.Inputs in
    let known = with_inputs (i.state c.read_whole.new.inputs).contents flash in
    let name = c.args.name.now in
    let C = CameIn (step_over (name ∷ []) (i.state c.args.inputs.now) (i.state c.read_whole.new.inputs)) in
    let text = c.in_ok-text.text.items in
    let part = rw c.deref.ensures.value at c.in-Ok.ensures.part in
    after_text known C part_limit name text (λ bytes. part_by name (part_in bytes)) (Ok c.in-Ok.part) (c.in_ok-text.ensures.caused flash) (works known C (part_by name (part_in text)) (Ok c.in-Ok.part) tt tt (ap (part_by name) part))

pub returns-clause-caused : goal.returns-clause-caused
returns-clause-caused g c = λ flash.
    let i = g.I.Inputs in
    let known = with_inputs (i.state c.read_whole.new.inputs).contents flash in
    let name = c.args.name.now in
    let C = CameIn (step_over (name ∷ []) (i.state c.args.inputs.now) (i.state c.read_whole.new.inputs)) in
    let text = c.in_ok-text.text.items in
    let why = rw c.deref.ensures.value at c.in-Err.ensures.fault in
    caused_event known C (λ known. part_known known name) (event_of c.refusal_of.result) (part_event name c.in-Err.fault) c.refusal_of.ensures
    (after_text known C part_limit name text (λ bytes. part_by name (part_in bytes)) (Err (part_event name c.in-Err.fault)) (c.in_ok-text.ensures.caused flash)
    (refused known C name text c.in-Err.fault why))

pub returns-in_err-text-clause-caused : goal.returns-in_err-text-clause-caused
returns-in_err-text-clause-caused g c = rw (handed_on c.from_residual.result c.in_err-text.field-0.0 c.from_residual.ensures) (λ flash.
    let i = g.I.Inputs in
    let name = c.args.name.now in
    stops (with_inputs (i.state c.read_whole.new.inputs).contents flash) (CameIn (step_over (name ∷ []) (i.state c.args.inputs.now) (i.state c.read_whole.new.inputs)))
    (λ t. whole_known t part_limit name) (λ t text. part_by name (part_in text)) (event_of c.in_err-text.field-0.0) (c.in_err-text.ensures.caused flash))

pub returns-clause-named : goal.returns-clause-named
returns-clause-named g c = no_part c.args.name.now c.in-Err.fault (event_of c.refusal_of.result) c.refusal_of.ensures

pub returns-in_err-text-clause-named : goal.returns-in_err-text-clause-named
returns-in_err-text-clause-named g c = rw (handed_on c.from_residual.result c.in_err-text.field-0.0 c.from_residual.ensures) (inl c.in_err-text.ensures.named)

pub returns-in_err-text-clause-memory : goal.returns-in_err-text-clause-memory
returns-in_err-text-clause-memory g c = rw (handed_on c.from_residual.result c.in_err-text.field-0.0 c.from_residual.ensures) c.in_err-text.ensures.memory

pub returns-clause-memory : goal.returns-clause-memory
returns-clause-memory g c = λ _. c.in_ok-text.ensures.open

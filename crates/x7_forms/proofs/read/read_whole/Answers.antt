use Rattle.std.proofs.Common.{◌≡◌, [], ◌∷◌, ◌++◌, Ok, ap, subst, sym, ◌∙◌}
use Rattle.x7_words.proofs.InputLemmas.{rest_on}
use Rattle.x7_forms.specs.Event.{event_of}
use Rattle.x7_forms.specs.Step.{CameIn, IsCaused, step_over}
use Rattle.x7_forms.specs.Known.{whole_known, with_inputs}
use Rattle.x7_forms.proofs.ReadLemmas.{no_fault_on, open_refused, unopened_named, unopened_unread, want_unread, whole_read, whole_refused}
use Rattle.x7_forms.proofs.AskedLemmas.{asks_opened, asks_read}
use Rattle.x7_forms.proofs.ResultLemmas.{handed_on}
use Rattle.x7_forms.proofs.read.read_whole.Goals as goal

pub returns-in_err-open-clause-caused : goal.returns-in_err-open-clause-caused
returns-in_err-open-clause-caused g c = rw (handed_on c.from_residual.result c.in_err-open.field-0.0 c.from_residual.ensures) (λ flash.
    let i = g.I.Inputs in
    open_refused (i.state c.args.inputs.now) (i.state c.open.new.inputs) flash c.args.name.now c.args.limit (event_of c.in_err-open.field-0.0) c.in_err-open.ensures.refused c.open.ensures.asks.named)

pub returns-clause-caused : goal.returns-clause-caused
returns-clause-caused g c = λ flash.
    let i = g.I.Inputs in
    let name = c.args.name.now in
    let opened = i.state c.open.new.inputs in
    let new = i.state c.read_rest.new.inputs in
    let contents = new.contents in
    let p = c.in_ok-read_rest.ensures.read in
    let sel = rest_on opened.contents contents name p.0 opened.rest new.rest c.read_rest.ensures.gives_few.stays.map p.3.0 c.in_ok-open.ensures.opened.found in
    let C = CameIn (step_over (name ∷ []) (i.state c.args.inputs.now) (i.state c.read_rest.new.inputs)) in
    let is : c.read_rest.new.onto.items ≡ p.0 = p.1 ∙ ap (λ x. x ++ p.0) c.new-whole.ensures.items in
    subst (λ x. IsCaused (with_inputs contents flash) C (λ t. whole_known t c.args.limit name) (Ok x)) (sym is)
    (whole_read contents flash C name p.0 (i.state c.read_rest.new.inputs).rest c.args.limit sel p.3.1 p.2)

pub returns-in_err-read_rest-clause-caused : goal.returns-in_err-read_rest-clause-caused
returns-in_err-read_rest-clause-caused g c = rw (handed_on c.from_residual-in_err-read_rest.result c.in_err-read_rest.field-0.0 c.from_residual-in_err-read_rest.ensures) (λ flash.
    let i = g.I.Inputs in
    whole_refused (i.state c.args.inputs.now) (i.state c.open.new.inputs) (i.state c.read_rest.new.inputs) flash c.args.name.now c.args.limit (event_of c.in_err-read_rest.field-0.0)
    c.open.ensures.asks.stays c.read_rest.ensures.gives_few.stays c.in_ok-open.ensures.opened.found c.open.ensures.asks.named c.in_err-read_rest.ensures.refused)

pub returns-in_err-open-clause-named : goal.returns-in_err-open-clause-named
returns-in_err-open-clause-named g c = rw (handed_on c.from_residual.result c.in_err-open.field-0.0 c.from_residual.ensures) (let i = g.I.Inputs in
    unopened_unread (i.state c.args.inputs.now) (i.state c.open.new.inputs) c.args.name.now (event_of c.in_err-open.field-0.0) c.in_err-open.ensures.refused)

pub returns-in_err-read_rest-clause-named : goal.returns-in_err-read_rest-clause-named
returns-in_err-read_rest-clause-named g c = rw (handed_on c.from_residual-in_err-read_rest.result c.in_err-read_rest.field-0.0 c.from_residual-in_err-read_rest.ensures) (let i = g.I.Inputs in
    want_unread (i.state c.open.new.inputs) (i.state c.read_rest.new.inputs) c.args.name.now c.args.limit (event_of c.in_err-read_rest.field-0.0) c.in_err-read_rest.ensures.refused)

pub returns-clause-no_fault : goal.returns-clause-no_fault
returns-clause-no_fault g c = no_fault_on _ _ _ c.in_ok-open.ensures.no_fault c.in_ok-read_rest.ensures.no_fault

pub returns-in_err-open-clause-asks : goal.returns-in_err-open-clause-asks
returns-in_err-open-clause-asks g c = asks_opened _ _ c.args.name.now c.args.limit c.open.ensures.asks

pub returns-clause-asks : goal.returns-clause-asks
returns-clause-asks g c = asks_read _ _ _ c.args.name.now c.args.limit c.open.ensures.asks c.read_rest.ensures.gives_few

pub returns-in_err-read_rest-clause-asks : goal.returns-in_err-read_rest-clause-asks
returns-in_err-read_rest-clause-asks g c = asks_read _ _ _ c.args.name.now c.args.limit c.open.ensures.asks c.read_rest.ensures.gives_few

pub returns-in_err-open-clause-memory : goal.returns-in_err-open-clause-memory
returns-in_err-open-clause-memory g c = rw (handed_on c.from_residual.result c.in_err-open.field-0.0 c.from_residual.ensures) (let i = g.I.Inputs in
    λ e. absurd (unopened_named (i.state c.args.inputs.now) (i.state c.open.new.inputs) c.args.name.now (event_of c.in_err-open.field-0.0) c.in_err-open.ensures.refused e))

pub returns-in_err-read_rest-clause-memory : goal.returns-in_err-read_rest-clause-memory
returns-in_err-read_rest-clause-memory g c = rw (handed_on c.from_residual-in_err-read_rest.result c.in_err-read_rest.field-0.0 c.from_residual-in_err-read_rest.ensures) c.in_err-read_rest.ensures.memory

pub returns-clause-open : goal.returns-clause-open
returns-clause-open g c = c.in_ok-read_rest.ensures.open

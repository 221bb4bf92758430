use Rattle.std.proofs.Common.{◌≡◌, ◌≤◌, ◌∷◌, [], ℕ, List, Ok, Err, drop, length, inl, subst}
use Rattle.x7_forms.specs.Event.{event_of}
use Rattle.x7_forms.specs.Known.{data_in, stream_limit, whole_known}
use Rattle.x7_forms.proofs.ReadLemmas.{answers_stop, header_named, header_refused}
use Rattle.x7_forms.proofs.ResultLemmas.{handed_on}
use Rattle.x7_outcome.proofs.StreamLemmas.{data_read}
use Rattle.x7_outcome.proofs.stream.read_stream.Goals as goal

pub returns-in_err-bytes-clause-named : goal.returns-in_err-bytes-clause-named
returns-in_err-bytes-clause-named g c = rw (handed_on c.from_residual.result c.in_err-bytes.field-0.0 c.from_residual.ensures) (inl c.in_err-bytes.ensures.named)

pub returns-in_err-start-clause-named : goal.returns-in_err-start-clause-named
returns-in_err-start-clause-named g c = rw (handed_on c.from_residual-in_err-start.result c.in_err-start.field-0.0 c.from_residual-in_err-start.ensures) (header_refused c.args.name.now c.deref.result.now (event_of c.in_err-start.field-0.0) c.in_err-start.ensures.data)

pub returns-in_err-bytes-clause-caused : goal.returns-in_err-bytes-clause-caused
returns-in_err-bytes-clause-caused g c = rw (handed_on c.from_residual.result c.in_err-bytes.field-0.0 c.from_residual.ensures) (let i = g.I.Inputs in
    let name = c.args.name.now in
    answers_stop (List ℕ) (List ℕ) (name ∷ []) (name ∷ []) (i.state c.args.inputs.now) (i.state c.read_whole.new.inputs) (λ t. whole_known t stream_limit name) (λ t whole. data_in name whole) (event_of c.in_err-bytes.field-0.0) (λ n h. h) c.in_err-bytes.ensures.caused)

pub returns-in_err-start-clause-caused : goal.returns-in_err-start-clause-caused
returns-in_err-start-clause-caused g c = rw (handed_on c.from_residual-in_err-start.result c.in_err-start.field-0.0 c.from_residual-in_err-start.ensures) (let i = g.I.Inputs in
    let name = c.args.name.now in
    let event = event_of c.in_err-start.field-0.0 in
    let refused = subst (λ (x : List ℕ). Err event ≡ data_in name x) c.deref.ensures.value c.in_err-start.ensures.data in
    data_read name c.in_ok-bytes.bytes.items (i.state c.args.inputs.now) (i.state c.read_whole.new.inputs) (Err event) c.in_ok-bytes.ensures.caused refused)

pub returns-clause-caused : goal.returns-clause-caused
returns-clause-caused g c =
    let i = g.I.Inputs in
    let name = c.args.name.now in
    let bytes = c.in_ok-bytes.bytes.items in
    let start = c.in_ok-start.start in
    let judged = subst (λ (x : List ℕ). Ok (drop start x) ≡ data_in name x) c.deref.ensures.value c.in_ok-start.ensures.data in
    data_read name bytes (i.state c.args.inputs.now) (i.state c.read_whole.new.inputs) (Ok (drop start bytes)) c.in_ok-bytes.ensures.caused judged

pub returns-clause-within : goal.returns-clause-within
returns-clause-within g c = subst (λ (x : List ℕ). c.in_ok-start.start ≤ length x) c.deref.ensures.value c.in_ok-start.ensures.within

pub returns-clause-whole : goal.returns-clause-whole
returns-clause-whole g c = c.in_ok-bytes.ensures.caused

pub returns-in_err-bytes-clause-memory : goal.returns-in_err-bytes-clause-memory
returns-in_err-bytes-clause-memory g c = rw (handed_on c.from_residual.result c.in_err-bytes.field-0.0 c.from_residual.ensures) c.in_err-bytes.ensures.memory

pub returns-in_err-start-clause-memory : goal.returns-in_err-start-clause-memory
returns-in_err-start-clause-memory g c = rw (handed_on c.from_residual-in_err-start.result c.in_err-start.field-0.0 c.from_residual-in_err-start.ensures) (λ e. absurd (header_named c.args.name.now c.deref.result.now (event_of c.in_err-start.field-0.0) c.in_err-start.ensures.data e))

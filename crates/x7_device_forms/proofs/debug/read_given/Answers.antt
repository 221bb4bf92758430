use Rattle.std.proofs.Common.{ℕ, List, [], ◌∷◌, Result, Ok, Err, arith, inr, refl}
use Rattle.x7_forms.specs.Event.{Event, event_of}
use Rattle.x7_part.specs.Part.{PartData}
use Rattle.x7_forms.specs.Known.{and_so, part_known, whole_known, part_limit, stream_limit, script_limit}
use Rattle.x7_forms.proofs.ReadLemmas.{answers_end, answers_go, answers_stop, first_of, no_fault_on, part_steady, whole_steady}
use Rattle.x7_outcome.specs.Outcome.{DebugInputs, stream_data}
use Rattle.x7_outcome.proofs.StreamLemmas.{stream_steady}
use Rattle.x7_forms.proofs.AskedLemmas.{about_among, no_part_about, unplayed_about, unread_about}
use Rattle.x7_forms.specs.ReadingStops.{limited}
use Rattle.x7_outcome.proofs.StopLemmas.{both_asked}
use Rattle.x7_device_forms.proofs.StopLemmas.{all_asked}
use Rattle.x7_words.proofs.InputLemmas.{few_more, few_on, stays_on}
use Rattle.x7_forms.proofs.ResultLemmas.{handed_on}
use Rattle.x7_device_forms.proofs.debug.read_given.Goals as goal

pub returns-in_err-stream-clause-caused : goal.returns-in_err-stream-clause-caused
returns-in_err-stream-clause-caused g c = rw (handed_on c.from_residual-in_err-stream.result c.in_err-stream.field-0.0 c.from_residual-in_err-stream.ensures) (let i = g.I.Inputs in
    let part = c.args.part_name.now in
    let stream = c.args.stream_name.now in
    let script = c.args.script_name.now in
    let event = event_of c.in_err-stream.field-0.0 in
    answers_go PartData DebugInputs (part ∷ []) (stream ∷ []) (part ∷ stream ∷ script ∷ []) (i.state c.args.inputs.now) (i.state c.read_part.new.inputs) (i.state c.read_data.new.inputs) (λ t. part_known t part)
    (λ t p. and_so (stream_data t stream) (λ bytes. and_so (whole_known t script_limit script) (λ text. Ok (record { part = p; stream = bytes; script = text })))) c.in_ok-part.part (Err event)
    (part_steady part) c.read_part.ensures.asks.stays c.read_data.ensures.asks.stays (λ n h. inr (first_of stream (script ∷ []) n h)) c.in_ok-part.ensures.caused
    (answers_stop (List ℕ) DebugInputs (stream ∷ []) (stream ∷ []) (i.state c.read_part.new.inputs) (i.state c.read_data.new.inputs) (λ t. stream_data t stream)
    (λ t bytes. and_so (whole_known t script_limit script) (λ text. Ok (record { part = c.in_ok-part.part; stream = bytes; script = text }))) event (λ n h. h) c.in_err-stream.ensures.caused))

pub returns-in_err-script-clause-caused : goal.returns-in_err-script-clause-caused
returns-in_err-script-clause-caused g c = rw (handed_on c.from_residual-in_err-script.result c.in_err-script.field-0.0 c.from_residual-in_err-script.ensures) (let i = g.I.Inputs in
    let part = c.args.part_name.now in
    let stream = c.args.stream_name.now in
    let script = c.args.script_name.now in
    let first = i.state c.read_part.new.inputs in
    let second = i.state c.read_data.new.inputs in
    let last = i.state c.read_whole.new.inputs in
    let event = event_of c.in_err-script.field-0.0 in
    answers_go PartData DebugInputs (part ∷ []) (stream ∷ script ∷ []) (part ∷ stream ∷ script ∷ []) (i.state c.args.inputs.now) first last (λ t. part_known t part)
    (λ t p. and_so (stream_data t stream) (λ bytes. and_so (whole_known t script_limit script) (λ text. Ok (record { part = p; stream = bytes; script = text })))) c.in_ok-part.part (Err event) (part_steady part) c.read_part.ensures.asks.stays (stays_on _ _ _ c.read_data.ensures.asks.stays c.read_whole.ensures.asks.stays) (λ n h. inr h) c.in_ok-part.ensures.caused
    (answers_go (List ℕ) DebugInputs (stream ∷ []) (script ∷ []) (stream ∷ script ∷ []) first second last (λ t. stream_data t stream)
    (λ t bytes. and_so (whole_known t script_limit script) (λ text. Ok (record { part = c.in_ok-part.part; stream = bytes; script = text }))) c.in_ok-stream.stream.items (Err event)
    (stream_steady stream) c.read_data.ensures.asks.stays c.read_whole.ensures.asks.stays (λ n h. inr h) c.in_ok-stream.ensures.caused
    (answers_stop (List ℕ) DebugInputs (script ∷ []) (script ∷ []) second last (λ t. whole_known t script_limit script) (λ t text. Ok (record { part = c.in_ok-part.part; stream = c.in_ok-stream.stream.items; script = text })) event (λ n h. h) c.in_err-script.ensures.caused)))

pub returns-in_err-part-clause-caused : goal.returns-in_err-part-clause-caused
returns-in_err-part-clause-caused g c = rw (handed_on c.from_residual.result c.in_err-part.field-0.0 c.from_residual.ensures) (let i = g.I.Inputs in
    let part = c.args.part_name.now in
    let stream = c.args.stream_name.now in
    let script = c.args.script_name.now in
    answers_stop PartData DebugInputs (part ∷ []) (part ∷ stream ∷ script ∷ []) (i.state c.args.inputs.now) (i.state c.read_part.new.inputs) (λ t. part_known t part)
    (λ t p. and_so (stream_data t stream) (λ bytes. and_so (whole_known t script_limit script) (λ text. Ok (record { part = p; stream = bytes; script = text })))) (event_of c.in_err-part.field-0.0) (first_of part (stream ∷ script ∷ [])) c.in_err-part.ensures.caused)

pub returns-in_err-part-clause-stops : goal.returns-in_err-part-clause-stops
returns-in_err-part-clause-stops g c = rw (handed_on c.from_residual.result c.in_err-part.field-0.0 c.from_residual.ensures)
    (about_among (limited part_limit c.args.part_name.now ∷ limited stream_limit c.args.stream_name.now ∷ limited script_limit c.args.script_name.now ∷ []) [] (limited part_limit c.args.part_name.now)
    (limited stream_limit c.args.stream_name.now ∷ limited script_limit c.args.script_name.now ∷ []) (g.I.Inputs.state c.args.inputs.now) (g.I.Inputs.state c.read_part.new.inputs)
    (event_of c.in_err-part.field-0.0) refl c.read_part.ensures.asks.last c.read_part.ensures.asks.once (no_part_about c.args.part_name.now (event_of c.in_err-part.field-0.0) c.in_err-part.ensures.named))

pub returns-in_err-stream-clause-stops : goal.returns-in_err-stream-clause-stops
returns-in_err-stream-clause-stops g c = rw (handed_on c.from_residual-in_err-stream.result c.in_err-stream.field-0.0 c.from_residual-in_err-stream.ensures)
    (about_among (limited part_limit c.args.part_name.now ∷ limited stream_limit c.args.stream_name.now ∷ limited script_limit c.args.script_name.now ∷ []) (limited part_limit c.args.part_name.now ∷ []) (limited stream_limit c.args.stream_name.now)
    (limited script_limit c.args.script_name.now ∷ []) (g.I.Inputs.state c.args.inputs.now) (g.I.Inputs.state c.read_data.new.inputs)
    (event_of c.in_err-stream.field-0.0) refl c.read_data.ensures.asks.last
    (both_asked (g.I.Inputs.state c.args.inputs.now) (g.I.Inputs.state c.read_part.new.inputs) (g.I.Inputs.state c.read_data.new.inputs) c.read_part.ensures.asks.once c.read_data.ensures.asks.once)
    (unplayed_about c.args.stream_name.now (event_of c.in_err-stream.field-0.0) c.in_err-stream.ensures.named))

pub returns-in_err-script-clause-stops : goal.returns-in_err-script-clause-stops
returns-in_err-script-clause-stops g c = rw (handed_on c.from_residual-in_err-script.result c.in_err-script.field-0.0 c.from_residual-in_err-script.ensures)
    (about_among (limited part_limit c.args.part_name.now ∷ limited stream_limit c.args.stream_name.now ∷ limited script_limit c.args.script_name.now ∷ []) (limited part_limit c.args.part_name.now ∷ limited stream_limit c.args.stream_name.now ∷ [])
    (limited script_limit c.args.script_name.now) [] (g.I.Inputs.state c.args.inputs.now) (g.I.Inputs.state c.read_whole.new.inputs)
    (event_of c.in_err-script.field-0.0) refl c.read_whole.ensures.asks.last
    (all_asked (g.I.Inputs.state c.args.inputs.now) (g.I.Inputs.state c.read_part.new.inputs) (g.I.Inputs.state c.read_data.new.inputs)
    (g.I.Inputs.state c.read_whole.new.inputs) c.read_part.ensures.asks.once c.read_data.ensures.asks.once c.read_whole.ensures.asks.once) (unread_about c.args.script_name.now
    (event_of c.in_err-script.field-0.0) c.in_err-script.ensures.named))

pub returns-clause-caused : goal.returns-clause-caused
returns-clause-caused g c =
    let i = g.I.Inputs in
    let part = c.args.part_name.now in
    let stream = c.args.stream_name.now in
    let script = c.args.script_name.now in
    let first = i.state c.read_part.new.inputs in
    let second = i.state c.read_data.new.inputs in
    let last = i.state c.read_whole.new.inputs in
    let content = c.in_ok-stream.stream.items in
    let text = c.in_ok-script.script.items in
    let got : Result DebugInputs Event = Ok (record { part = c.in_ok-part.part; stream = content; script = text }) in
    answers_go PartData DebugInputs (part ∷ []) (stream ∷ script ∷ []) (part ∷ stream ∷ script ∷ []) (i.state c.args.inputs.now) first last (λ t. part_known t part)
    (λ t p. and_so (stream_data t stream) (λ bytes. and_so (whole_known t script_limit script) (λ text. Ok (record { part = p; stream = bytes; script = text })))) c.in_ok-part.part got (part_steady part) c.read_part.ensures.asks.stays (stays_on _ _ _ c.read_data.ensures.asks.stays c.read_whole.ensures.asks.stays) (λ n h. inr h) c.in_ok-part.ensures.caused
    (answers_go (List ℕ) DebugInputs (stream ∷ []) (script ∷ []) (stream ∷ script ∷ []) first second last (λ t. stream_data t stream) (λ t bytes. and_so (whole_known t script_limit script) (λ text. Ok (record { part = c.in_ok-part.part; stream = bytes; script = text }))) content got
    (stream_steady stream) c.read_data.ensures.asks.stays c.read_whole.ensures.asks.stays (λ n h. inr h) c.in_ok-stream.ensures.caused
    (answers_end (List ℕ) DebugInputs (script ∷ []) second last (λ t. whole_known t script_limit script) (λ text. Ok (record { part = c.in_ok-part.part; stream = content; script = text })) text got (whole_steady script_limit script) c.in_ok-script.ensures.caused (inr (tt, tt, refl))))

pub returns-in_err-part-clause-asks : goal.returns-in_err-part-clause-asks
returns-in_err-part-clause-asks g c = few_more _ _ 1 3 (omega arith) c.read_part.ensures.asks.once

pub returns-in_err-stream-clause-asks : goal.returns-in_err-stream-clause-asks
returns-in_err-stream-clause-asks g c = few_more _ _ 2 3 (omega arith) (few_on _ _ _ 1 1 c.read_part.ensures.asks.once c.read_data.ensures.asks.once)

pub returns-in_err-script-clause-asks : goal.returns-in_err-script-clause-asks
returns-in_err-script-clause-asks g c = few_on _ _ _ 2 1 (few_on _ _ _ 1 1 c.read_part.ensures.asks.once c.read_data.ensures.asks.once) c.read_whole.ensures.asks.once

pub returns-clause-asks : goal.returns-clause-asks
returns-clause-asks g c = few_on _ _ _ 2 1 (few_on _ _ _ 1 1 c.read_part.ensures.asks.once c.read_data.ensures.asks.once) c.read_whole.ensures.asks.once

pub returns-in_err-part-clause-inputs : goal.returns-in_err-part-clause-inputs
returns-in_err-part-clause-inputs g c = c.read_part.ensures.asks.stays

pub returns-in_err-stream-clause-inputs : goal.returns-in_err-stream-clause-inputs
returns-in_err-stream-clause-inputs g c = stays_on _ _ _ c.read_part.ensures.asks.stays c.read_data.ensures.asks.stays

pub returns-in_err-script-clause-inputs : goal.returns-in_err-script-clause-inputs
returns-in_err-script-clause-inputs g c = stays_on _ _ _ (stays_on _ _ _ c.read_part.ensures.asks.stays c.read_data.ensures.asks.stays) c.read_whole.ensures.asks.stays

pub returns-clause-inputs : goal.returns-clause-inputs
returns-clause-inputs g c = stays_on _ _ _ (stays_on _ _ _ c.read_part.ensures.asks.stays c.read_data.ensures.asks.stays) c.read_whole.ensures.asks.stays

pub returns-clause-last_asked : goal.returns-clause-last_asked
returns-clause-last_asked g c = c.read_whole.ensures.asks.last

pub returns-clause-no_fault : goal.returns-clause-no_fault
returns-clause-no_fault g c = no_fault_on _ _ _ (no_fault_on _ _ _ c.in_ok-part.ensures.no_fault c.in_ok-stream.ensures.no_fault) c.in_ok-script.ensures.no_fault

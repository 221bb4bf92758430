use Rattle.std.proofs.Common.{ℕ, List, [], ◌∷◌, Result, Ok, Err, arith, inr, refl}
use Rattle.x7_forms.specs.Event.{Event, event_of}
use Rattle.x7_forms.specs.Known.{and_so, stream_limit}
use Rattle.x7_forms.proofs.ReadLemmas.{answers_end, answers_go, answers_stop, first_of, no_fault_on}
use Rattle.x7_outcome.specs.Outcome.{ImageStreams, stream_data}
use Rattle.x7_outcome.specs.Stream.{data_from}
use Rattle.x7_outcome.proofs.StreamLemmas.{stream_steady}
use Rattle.x7_forms.proofs.AskedLemmas.{about_among, unplayed_about}
use Rattle.x7_outcome.proofs.StopLemmas.{both_asked}
use Rattle.x7_forms.specs.ReadingStops.{limited}
use Rattle.x7_words.proofs.InputLemmas.{few_more, few_on, stays_on}
use Rattle.x7_forms.proofs.ResultLemmas.{handed_on}
use Rattle.x7_stream_forms.proofs.image.read_streams.Goals as goal

pub returns-in_err-golden-clause-caused : goal.returns-in_err-golden-clause-caused
returns-in_err-golden-clause-caused g c = rw (handed_on c.from_residual.result c.in_err-golden.field-0.0 c.from_residual.ensures) (let i = g.I.Inputs in
    let golden = c.args.golden_name.now in
    let update = c.args.update_name.now in
    answers_stop (List ℕ) ImageStreams (golden ∷ []) (golden ∷ update ∷ []) (i.state c.args.inputs.now) (i.state c.read_stream.new.inputs) (λ t. stream_data t golden)
    (λ t first. and_so (stream_data t update) (λ second. Ok (record { golden = first; update = second }))) (event_of c.in_err-golden.field-0.0) (first_of golden (update ∷ [])) c.in_err-golden.ensures.caused)

pub returns-in_err-update-clause-caused : goal.returns-in_err-update-clause-caused
returns-in_err-update-clause-caused g c = rw (handed_on c.from_residual-in_err-update.result c.in_err-update.field-0.0 c.from_residual-in_err-update.ensures) (let i = g.I.Inputs in
    let golden = c.args.golden_name.now in
    let update = c.args.update_name.now in
    let event = event_of c.in_err-update.field-0.0 in
    let first = data_from c.in_ok-golden.golden in
    answers_go (List ℕ) ImageStreams (golden ∷ []) (update ∷ []) (golden ∷ update ∷ []) (i.state c.args.inputs.now) (i.state c.read_stream.new.inputs) (i.state c.read_stream-2.new.inputs) (λ t. stream_data t golden)
    (λ t first. and_so (stream_data t update) (λ second. Ok (record { golden = first; update = second }))) first (Err event) (stream_steady golden) c.read_stream.ensures.asks.stays c.read_stream-2.ensures.asks.stays (λ n h. inr h) c.in_ok-golden.ensures.caused
    (answers_stop (List ℕ) ImageStreams (update ∷ []) (update ∷ []) (i.state c.read_stream.new.inputs) (i.state c.read_stream-2.new.inputs) (λ t. stream_data t update) (λ t second. Ok (record { golden = first; update = second })) event (λ n h. h) c.in_err-update.ensures.caused))

pub returns-in_err-golden-clause-stops : goal.returns-in_err-golden-clause-stops
returns-in_err-golden-clause-stops g c = rw (handed_on c.from_residual.result c.in_err-golden.field-0.0 c.from_residual.ensures)
    (about_among (limited stream_limit c.args.golden_name.now ∷ limited stream_limit c.args.update_name.now ∷ []) [] (limited stream_limit c.args.golden_name.now) (limited stream_limit c.args.update_name.now ∷ []) (g.I.Inputs.state c.args.inputs.now)
    (g.I.Inputs.state c.read_stream.new.inputs) (event_of c.in_err-golden.field-0.0) refl c.read_stream.ensures.asks.last c.read_stream.ensures.asks.once
    (unplayed_about c.args.golden_name.now (event_of c.in_err-golden.field-0.0) c.in_err-golden.ensures.named))

pub returns-in_err-update-clause-stops : goal.returns-in_err-update-clause-stops
returns-in_err-update-clause-stops g c = rw (handed_on c.from_residual-in_err-update.result c.in_err-update.field-0.0 c.from_residual-in_err-update.ensures)
    (about_among (limited stream_limit c.args.golden_name.now ∷ limited stream_limit c.args.update_name.now ∷ []) (limited stream_limit c.args.golden_name.now ∷ []) (limited stream_limit c.args.update_name.now) [] (g.I.Inputs.state c.args.inputs.now)
    (g.I.Inputs.state c.read_stream-2.new.inputs) (event_of c.in_err-update.field-0.0) refl c.read_stream-2.ensures.asks.last
    (both_asked (g.I.Inputs.state c.args.inputs.now) (g.I.Inputs.state c.read_stream.new.inputs) (g.I.Inputs.state c.read_stream-2.new.inputs) c.read_stream.ensures.asks.once c.read_stream-2.ensures.asks.once)
    (unplayed_about c.args.update_name.now (event_of c.in_err-update.field-0.0) c.in_err-update.ensures.named))

pub returns-clause-caused : goal.returns-clause-caused
returns-clause-caused g c =
    let i = g.I.Inputs in
    let golden = c.args.golden_name.now in
    let update = c.args.update_name.now in
    let first = data_from c.in_ok-golden.golden in
    let second = data_from c.in_ok-update.update in
    let got : Result ImageStreams Event = Ok (record { golden = first; update = second }) in
    answers_go (List ℕ) ImageStreams (golden ∷ []) (update ∷ []) (golden ∷ update ∷ []) (i.state c.args.inputs.now) (i.state c.read_stream.new.inputs) (i.state c.read_stream-2.new.inputs) (λ t. stream_data t golden)
    (λ t first. and_so (stream_data t update) (λ second. Ok (record { golden = first; update = second }))) first got (stream_steady golden) c.read_stream.ensures.asks.stays c.read_stream-2.ensures.asks.stays (λ n h. inr h) c.in_ok-golden.ensures.caused
    (answers_end (List ℕ) ImageStreams (update ∷ []) (i.state c.read_stream.new.inputs) (i.state c.read_stream-2.new.inputs) (λ t. stream_data t update) (λ second. Ok (record { golden = first; update = second })) second got (stream_steady update) c.in_ok-update.ensures.caused (inr (tt, tt, refl)))

pub returns-in_err-golden-clause-asks : goal.returns-in_err-golden-clause-asks
returns-in_err-golden-clause-asks g c = few_more _ _ 1 2 (omega arith) c.read_stream.ensures.asks.once

pub returns-in_err-update-clause-asks : goal.returns-in_err-update-clause-asks
returns-in_err-update-clause-asks g c = few_on _ _ _ 1 1 c.read_stream.ensures.asks.once c.read_stream-2.ensures.asks.once

pub returns-clause-asks : goal.returns-clause-asks
returns-clause-asks g c = few_on _ _ _ 1 1 c.read_stream.ensures.asks.once c.read_stream-2.ensures.asks.once

pub returns-in_err-golden-clause-inputs : goal.returns-in_err-golden-clause-inputs
returns-in_err-golden-clause-inputs g c = c.read_stream.ensures.asks.stays

pub returns-in_err-update-clause-inputs : goal.returns-in_err-update-clause-inputs
returns-in_err-update-clause-inputs g c = stays_on _ _ _ c.read_stream.ensures.asks.stays c.read_stream-2.ensures.asks.stays

pub returns-clause-inputs : goal.returns-clause-inputs
returns-clause-inputs g c = stays_on _ _ _ c.read_stream.ensures.asks.stays c.read_stream-2.ensures.asks.stays

pub returns-clause-last_asked : goal.returns-clause-last_asked
returns-clause-last_asked g c = c.read_stream-2.ensures.asks.last

pub returns-clause-golden : goal.returns-clause-golden
returns-clause-golden g c = c.in_ok-golden.ensures.within

pub returns-clause-update : goal.returns-clause-update
returns-clause-update g c = c.in_ok-update.ensures.within

pub returns-clause-no_fault : goal.returns-clause-no_fault
returns-clause-no_fault g c = no_fault_on _ _ _ c.in_ok-golden.ensures.no_fault c.in_ok-update.ensures.no_fault

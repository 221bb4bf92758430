use Rattle.std.proofs.Common.{[], ◌∷◌, Ok, arith, refl}
use Rattle.x7_part.specs.Part.{PartData}
use Rattle.x7_forms.specs.Event.{event_of}
use Rattle.x7_forms.specs.Known.{and_so, part_known, whole_known, part_limit, text_limit}
use Rattle.x7_forms.proofs.ReadLemmas.{answers_stop, first_of, no_fault_on}
use Rattle.x7_outcome.proofs.TextLemmas.{texts_read, texts_unread}
use Rattle.x7_outcome.specs.Outcome.{PartAndText}
use Rattle.x7_forms.proofs.AskedLemmas.{about_among, no_part_about, unread_about}
use Rattle.x7_outcome.proofs.StopLemmas.{both_asked}
use Rattle.x7_forms.specs.ReadingStops.{limited}
use Rattle.x7_words.proofs.InputLemmas.{few_more, few_on, stays_on}
use Rattle.x7_forms.proofs.ResultLemmas.{handed_on}
use Rattle.x7_device_forms.proofs.svf.read_given.Goals as goal

pub returns-in_err-text-clause-caused : goal.returns-in_err-text-clause-caused
returns-in_err-text-clause-caused g c = rw (handed_on c.from_residual-in_err-text.result c.in_err-text.field-0.0 c.from_residual-in_err-text.ensures) (let i = g.I.Inputs in
    texts_unread c.args.part_name.now c.args.text_name.now (i.state c.args.inputs.now) (i.state c.read_part.new.inputs) (i.state c.read_whole.new.inputs) c.in_ok-part.part (event_of c.in_err-text.field-0.0) c.read_part.ensures.asks.stays c.read_whole.ensures.asks.stays c.in_ok-part.ensures.caused c.in_err-text.ensures.caused)

pub returns-clause-caused : goal.returns-clause-caused
returns-clause-caused g c =
    let i = g.I.Inputs in
    texts_read c.args.part_name.now c.args.text_name.now (i.state c.args.inputs.now) (i.state c.read_part.new.inputs) (i.state c.read_whole.new.inputs) c.in_ok-part.part c.in_ok-text.text.items c.read_part.ensures.asks.stays c.read_whole.ensures.asks.stays c.in_ok-part.ensures.caused c.in_ok-text.ensures.caused

pub returns-in_err-part-clause-caused : goal.returns-in_err-part-clause-caused
returns-in_err-part-clause-caused g c = rw (handed_on c.from_residual.result c.in_err-part.field-0.0 c.from_residual.ensures) (let i = g.I.Inputs in
    let part = c.args.part_name.now in
    let text = c.args.text_name.now in
    answers_stop PartData PartAndText (part ∷ []) (part ∷ text ∷ []) (i.state c.args.inputs.now) (i.state c.read_part.new.inputs) (λ t. part_known t part) (λ t p. and_so (whole_known t text_limit text) (λ bytes. Ok (record { part = p; text = bytes })))
    (event_of c.in_err-part.field-0.0) (first_of part (text ∷ [])) c.in_err-part.ensures.caused)

pub returns-in_err-part-clause-stops : goal.returns-in_err-part-clause-stops
returns-in_err-part-clause-stops g c = rw (handed_on c.from_residual.result c.in_err-part.field-0.0 c.from_residual.ensures)
    (about_among (limited part_limit c.args.part_name.now ∷ limited text_limit c.args.text_name.now ∷ []) [] (limited part_limit c.args.part_name.now) (limited text_limit c.args.text_name.now ∷ []) (g.I.Inputs.state c.args.inputs.now)
    (g.I.Inputs.state c.read_part.new.inputs) (event_of c.in_err-part.field-0.0) refl c.read_part.ensures.asks.last c.read_part.ensures.asks.once
    (no_part_about c.args.part_name.now (event_of c.in_err-part.field-0.0) c.in_err-part.ensures.named))

pub returns-in_err-text-clause-stops : goal.returns-in_err-text-clause-stops
returns-in_err-text-clause-stops g c = rw (handed_on c.from_residual-in_err-text.result c.in_err-text.field-0.0 c.from_residual-in_err-text.ensures)
    (about_among (limited part_limit c.args.part_name.now ∷ limited text_limit c.args.text_name.now ∷ []) (limited part_limit c.args.part_name.now ∷ []) (limited text_limit c.args.text_name.now) [] (g.I.Inputs.state c.args.inputs.now)
    (g.I.Inputs.state c.read_whole.new.inputs) (event_of c.in_err-text.field-0.0) refl c.read_whole.ensures.asks.last
    (both_asked (g.I.Inputs.state c.args.inputs.now) (g.I.Inputs.state c.read_part.new.inputs) (g.I.Inputs.state c.read_whole.new.inputs) c.read_part.ensures.asks.once c.read_whole.ensures.asks.once)
    (unread_about c.args.text_name.now (event_of c.in_err-text.field-0.0) c.in_err-text.ensures.named))

pub returns-in_err-part-clause-asks : goal.returns-in_err-part-clause-asks
returns-in_err-part-clause-asks g c = few_more _ _ 1 2 (omega arith) c.read_part.ensures.asks.once

pub returns-in_err-text-clause-asks : goal.returns-in_err-text-clause-asks
returns-in_err-text-clause-asks g c = few_on _ _ _ 1 1 c.read_part.ensures.asks.once c.read_whole.ensures.asks.once

pub returns-clause-asks : goal.returns-clause-asks
returns-clause-asks g c = few_on _ _ _ 1 1 c.read_part.ensures.asks.once c.read_whole.ensures.asks.once

pub returns-in_err-part-clause-inputs : goal.returns-in_err-part-clause-inputs
returns-in_err-part-clause-inputs g c = c.read_part.ensures.asks.stays

pub returns-in_err-text-clause-inputs : goal.returns-in_err-text-clause-inputs
returns-in_err-text-clause-inputs g c = stays_on _ _ _ c.read_part.ensures.asks.stays c.read_whole.ensures.asks.stays

pub returns-clause-inputs : goal.returns-clause-inputs
returns-clause-inputs g c = stays_on _ _ _ c.read_part.ensures.asks.stays c.read_whole.ensures.asks.stays

pub returns-clause-last_asked : goal.returns-clause-last_asked
returns-clause-last_asked g c = c.read_whole.ensures.asks.last

pub returns-clause-no_fault : goal.returns-clause-no_fault
returns-clause-no_fault g c = no_fault_on _ _ _ c.in_ok-part.ensures.no_fault c.in_ok-text.ensures.no_fault

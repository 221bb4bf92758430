use Rattle.std.proofs.Common.{◌≡◌, ◌++◌, ℕ, List, [], append_assoc, append-nil, ap, length, take, length-append, length-take-le, arith, inr, refl, sym, ◌∙◌}
use Rattle.x7_words.proofs.InputLemmas.{stays_at, stays_on}
use Rattle.x7_forms.specs.Event.{event_of}
use Rattle.x7_forms.proofs.ReadLemmas.{no_fault_at, no_fault_on, reads_none, reads_on, rest_unread, turn_named}
use Rattle.x7_forms.proofs.AskedLemmas.{gives_on}
use Rattle.x7_forms.proofs.ResultLemmas.{handed_on}
use Rattle.x7_forms.proofs.read.read_rest.Goals as goal

-- a piece after what was taken, both after what stood before
appended_on : (before old new taken piece : List ℕ) → new ≡ old ++ piece → old ≡ before ++ taken → new ≡ before ++ (taken ++ piece)
appended_on before old new taken piece n o = n ∙ ap (λ t. t ++ piece) o ∙ append_assoc before taken piece

pub loop-turn-init : goal.loop-turn-init
loop-turn-init g c =
    let i = g.I.Inputs in
    record { selected = c.requires.selected; inputs = stays_at _; no_fault = no_fault_at _; ends = omega arith; left = omega arith; piece = refl; known = ([], (sym (append-nil _), omega arith, reads_none (i.state c.args.inputs.now) c.requires.selected)) }

pub returns-in_err-turn-clause-refused : goal.returns-in_err-turn-clause-refused
returns-in_err-turn-clause-refused g c = rw (handed_on c.from_residual.result c.in_err-turn.field-0.0 c.from_residual.ensures) (let i = g.I.Inputs in
    let v = c.loop-turn.invariant in
    inr (rest_unread (i.state c.args.inputs.now) (i.state c.loop-turn.inputs) (i.state c.next_turn.new.inputs) c.args.name.now v.known.0 c.args.limit c.loop-turn.left (event_of c.in_err-turn.field-0.0)
    c.next_turn.ensures.gives_few.stays v.known.1.2 v.known.1.1 c.in_err-turn.ensures.refused c.next_turn.ensures.gives_few.asked))

pub returns-then-turn-clause-read : goal.returns-then-turn-clause-read
returns-then-turn-clause-read g c =
    let i = g.I.Inputs in
    let v = c.loop-turn.invariant in
    let n = c.in_ok-turn.turn.count in
    let piece = take n c.next_turn.new.buffer in
    let size : length piece ≡ n = length-take-le n c.next_turn.new.buffer c.in_ok-turn.ensures.reads.within_buffer in
    let reads = reads_on (i.state c.args.inputs.now) (i.state c.loop-turn.inputs) (i.state c.next_turn.new.inputs) v.known.0 piece v.known.1.2 c.in_ok-turn.ensures.reads.takes c.next_turn.ensures.gives_few.asked c.next_turn.ensures.gives_few.stays in
    (v.known.0 ++ piece, appended_on _ _ _ v.known.0 piece c.in_ok-put_text.ensures.appends v.known.1.0, omega (arith, v.known.1.1, size, length-append v.known.0 piece, c.in_ok-turn.ensures.reads.within_limit), (reads.takes.taken, c.in_ok-turn.ensures.reads.end c.if-turn.true))

pub loop-turn-preserved : goal.loop-turn-preserved
loop-turn-preserved g c =
    let i = g.I.Inputs in
    let v = c.loop-turn.invariant in
    let n = c.in_ok-turn.turn.count in
    let piece = take n c.next_turn.new.buffer in
    let size : length piece ≡ n = length-take-le n c.next_turn.new.buffer c.in_ok-turn.ensures.reads.within_buffer in
    let reads = reads_on (i.state c.args.inputs.now) (i.state c.loop-turn.inputs) (i.state c.next_turn.new.inputs) v.known.0 piece v.known.1.2 c.in_ok-turn.ensures.reads.takes c.next_turn.ensures.gives_few.asked c.next_turn.ensures.gives_few.stays in
    record {
      selected = c.in_ok-turn.ensures.reads.takes.selected;
      inputs = stays_on _ _ _ v.inputs c.next_turn.ensures.gives_few.stays;
      no_fault = no_fault_on _ _ _ v.no_fault c.in_ok-turn.ensures.no_fault;
      ends = omega (arith, v.ends, c.in_ok-turn.ensures.reads.no_end_read c.if-turn.false);
      left = omega (arith, v.left);
      piece = c.next_turn.ensures.length ∙ v.piece;
      known = (v.known.0 ++ piece, (appended_on _ _ _ v.known.0 piece c.in_ok-put_text.ensures.appends v.known.1.0, omega (arith, v.known.1.1, size, length-append v.known.0 piece, c.in_ok-turn.ensures.reads.within_limit), reads));
    }

pub returns-in_err-turn-clause-gives_few : goal.returns-in_err-turn-clause-gives_few
returns-in_err-turn-clause-gives_few g c =
    let i = g.I.Inputs in
    let v = c.loop-turn.invariant in
    gives_on (i.state c.args.inputs.now) (i.state c.loop-turn.inputs) (i.state c.next_turn.new.inputs) v.known.0 c.args.limit c.loop-turn.left v.known.1.2 v.known.1.1 v.ends c.next_turn.ensures.gives_few

pub returns-in_err-put_text-clause-gives_few : goal.returns-in_err-put_text-clause-gives_few
returns-in_err-put_text-clause-gives_few g c =
    let i = g.I.Inputs in
    let v = c.loop-turn.invariant in
    gives_on (i.state c.args.inputs.now) (i.state c.loop-turn.inputs) (i.state c.next_turn.new.inputs) v.known.0 c.args.limit c.loop-turn.left v.known.1.2 v.known.1.1 v.ends c.next_turn.ensures.gives_few

pub returns-then-turn-clause-gives_few : goal.returns-then-turn-clause-gives_few
returns-then-turn-clause-gives_few g c =
    let i = g.I.Inputs in
    let v = c.loop-turn.invariant in
    gives_on (i.state c.args.inputs.now) (i.state c.loop-turn.inputs) (i.state c.next_turn.new.inputs) v.known.0 c.args.limit c.loop-turn.left v.known.1.2 v.known.1.1 v.ends c.next_turn.ensures.gives_few

pub loop-turn-smaller : goal.loop-turn-smaller
loop-turn-smaller g c = omega (arith, c.in_ok-turn.ensures.reads.fills c.if-turn.false, c.loop-turn.invariant.piece, c.in_ok-turn.ensures.reads.within_limit)

pub next_turn-requires-clause-not_empty : goal.next_turn-requires-clause-not_empty
next_turn-requires-clause-not_empty g c = omega (arith, c.loop-turn.invariant.piece)

pub returns-in_err-turn-clause-memory : goal.returns-in_err-turn-clause-memory
returns-in_err-turn-clause-memory g c = rw (handed_on c.from_residual.result c.in_err-turn.field-0.0 c.from_residual.ensures) (let i = g.I.Inputs in
    λ e. absurd (turn_named (i.state c.loop-turn.inputs) (i.state c.next_turn.new.inputs) c.args.name.now c.loop-turn.left (event_of c.in_err-turn.field-0.0) c.in_err-turn.ensures.refused e))

pub returns-then-turn-clause-no_fault : goal.returns-then-turn-clause-no_fault
returns-then-turn-clause-no_fault g c = no_fault_on _ _ _ c.loop-turn.invariant.no_fault c.in_ok-turn.ensures.no_fault

pub returns-then-turn-clause-open : goal.returns-then-turn-clause-open
returns-then-turn-clause-open g c = c.in_ok-turn.ensures.reads.takes.selected

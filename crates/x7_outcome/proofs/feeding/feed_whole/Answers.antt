use Rattle.std.proofs.Common.{◌≡◌, ◌∷◌, [], ◌+◌, ◌^◌, ◌<◌, ◌≤◌, ◌++◌, length, length-append, length-take-le, take, arith, ap, refl, subst, sym, ◌∙◌}
use Rattle.x7_words.specs.Input.{RestIsWhole}
use Rattle.x7_words.proofs.InputLemmas.{once_on, preceded_nil, stays_on}
use Rattle.x7_forms.specs.Event.{event_of}
use Rattle.x7_forms.specs.Known.{text_limit}
use Rattle.x7_forms.specs.Step.{CameIn, step_over}
use Rattle.x7_forms.proofs.ReadLemmas.{at_on, at_open, no_fault_on, open_refused, turn_named, turn_refused, turn_unread, unopened_named, unopened_unread, whole_read}
use Rattle.x7_outcome.proofs.FeedLemmas.{taken_more}
use Rattle.x7_forms.proofs.AskedLemmas.{asks_opened, asks_turn}
use Rattle.x7_forms.proofs.ResultLemmas.{handed_on}
use Rattle.x7_outcome.proofs.feeding.feed_whole.Goals as goal

pub returns-then-turn-clause-read : goal.returns-then-turn-clause-read
returns-then-turn-clause-read g c =
    let i = g.I.Inputs in
    let contents = (i.state c.next_turn.new.inputs).contents in
    let name = c.args.name.now in
    let v = c.loop-read.invariant in
    let taken = v.known.0 in
    let n = c.in_ok-turn.turn.count in
    let piece = take n c.next_turn.new.buffer in
    let sel = taken_more (i.state c.loop-read.inputs) (i.state c.next_turn.new.inputs) name taken piece c.next_turn.ensures.gives_few.stays v.known.1.0 c.in_ok-turn.ensures.reads.takes.taken in
    let size : length (taken ++ piece) ≡ length taken + n = length-append taken piece ∙ ap (λ k. length taken + k) (length-take-le n c.next_turn.new.buffer c.in_ok-turn.ensures.reads.within_buffer) in
    let short : length (taken ++ piece) ≤ text_limit = omega (arith, size, c.in_ok-turn.ensures.reads.within_limit, v.known.1.2) in
    let fits : length (taken ++ piece) < 2 ^ 63 = omega (arith, short) in (
      taken ++ piece,
      c.end_text.ensures c.args.taker (taken ++ piece) fits (c.take_turn-read.ensures c.args.taker taken fits v.known.1.1),
      λ flash.
          whole_read contents flash (CameIn (step_over (name ∷ []) (i.state c.args.inputs.now) (i.state c.next_turn.new.inputs))) name (taken ++ piece) (i.state c.next_turn.new.inputs).rest text_limit sel (c.in_ok-turn.ensures.reads.end c.if-turn.true) short,
    )

pub loop-read-preserved : goal.loop-read-preserved
loop-read-preserved g c =
    let i = g.I.Inputs in
    let contents = (i.state c.next_turn.new.inputs).contents in
    let name = c.args.name.now in
    let v = c.loop-read.invariant in
    let taken = v.known.0 in
    let n = c.in_ok-turn.turn.count in
    let piece = take n c.next_turn.new.buffer in
    let sel = taken_more (i.state c.loop-read.inputs) (i.state c.next_turn.new.inputs) name taken piece c.next_turn.ensures.gives_few.stays v.known.1.0 c.in_ok-turn.ensures.reads.takes.taken in
    let size : length (taken ++ piece) ≡ length taken + n = length-append taken piece ∙ ap (λ k. length taken + k) (length-take-le n c.next_turn.new.buffer c.in_ok-turn.ensures.reads.within_buffer) in
    let fits : length (taken ++ piece) < 2 ^ 63 = omega (arith, size, c.in_ok-turn.ensures.reads.within_limit, v.known.1.2) in
    record {
      selected = c.in_ok-turn.ensures.reads.takes.selected;
      inputs = stays_on _ _ _ v.inputs c.next_turn.ensures.gives_few.stays;
      no_fault = no_fault_on _ _ _ v.no_fault c.in_ok-turn.ensures.no_fault;
      once = once_on _ _ _ v.once c.in_ok-turn.ensures.reads.takes.selects (c.in_ok-turn.ensures.reads.no_end_read c.if-turn.false);
      left = omega (arith, v.left);
      piece = c.next_turn.ensures.length ∙ v.piece;
      known = (
        taken ++ piece,
        (
          sel,
          c.take_turn-read.ensures c.args.taker taken fits v.known.1.1,
          omega (arith, size, v.known.1.2, c.in_ok-turn.ensures.reads.within_limit),
          at_on name taken piece (i.state c.loop-read.inputs)
              (i.state c.next_turn.new.inputs) v.known.1.3 c.in_ok-turn.ensures.reads.takes c.next_turn.ensures.gives_few.asked,
        ),
      );
    }

pub returns-in_err-open-clause-refused : goal.returns-in_err-open-clause-refused
returns-in_err-open-clause-refused g c = rw (handed_on c.from_residual.result c.in_err-open.field-0.0 c.from_residual.ensures) (λ flash.
    let i = g.I.Inputs in
    open_refused (i.state c.args.inputs.now) (i.state c.open.new.inputs) flash c.args.name.now text_limit (event_of c.in_err-open.field-0.0) c.in_err-open.ensures.refused c.open.ensures.asks.named)

pub returns-in_err-turn-clause-refused : goal.returns-in_err-turn-clause-refused
returns-in_err-turn-clause-refused g c = rw (handed_on c.from_residual-in_err-turn.result c.in_err-turn.field-0.0 c.from_residual-in_err-turn.ensures) (λ flash.
    let i = g.I.Inputs in
    let v = c.loop-read.invariant in
    turn_refused (i.state c.args.inputs.now) (i.state c.loop-read.inputs) (i.state c.next_turn.new.inputs) flash c.args.name.now v.known.0 text_limit c.loop-read.left (event_of c.in_err-turn.field-0.0)
    v.inputs c.next_turn.ensures.gives_few.stays v.known.1.0 v.known.1.3 v.known.1.2 c.in_err-turn.ensures.refused c.next_turn.ensures.gives_few.asked)

pub returns-in_err-open-clause-named : goal.returns-in_err-open-clause-named
returns-in_err-open-clause-named g c = rw (handed_on c.from_residual.result c.in_err-open.field-0.0 c.from_residual.ensures) (unopened_unread (g.I.Inputs.state c.args.inputs.now) (g.I.Inputs.state c.open.new.inputs) c.args.name.now (event_of c.in_err-open.field-0.0) c.in_err-open.ensures.refused)

pub returns-in_err-turn-clause-named : goal.returns-in_err-turn-clause-named
returns-in_err-turn-clause-named g c = rw (handed_on c.from_residual-in_err-turn.result c.in_err-turn.field-0.0 c.from_residual-in_err-turn.ensures)
    (turn_unread (g.I.Inputs.state c.loop-read.inputs) (g.I.Inputs.state c.next_turn.new.inputs) c.args.name.now c.loop-read.left (event_of c.in_err-turn.field-0.0) c.in_err-turn.ensures.refused)

pub returns-in_err-open-clause-asks : goal.returns-in_err-open-clause-asks
returns-in_err-open-clause-asks g c = asks_opened _ _ c.args.name.now text_limit c.open.ensures.asks

pub returns-in_err-turn-clause-asks : goal.returns-in_err-turn-clause-asks
returns-in_err-turn-clause-asks g c =
    let v = c.loop-read.invariant in
    asks_turn _ _ _ c.args.name.now v.known.0 text_limit c.loop-read.left v.known.1.3 v.known.1.2 v.once v.inputs c.next_turn.ensures.gives_few

pub returns-then-turn-clause-asks : goal.returns-then-turn-clause-asks
returns-then-turn-clause-asks g c =
    let v = c.loop-read.invariant in
    asks_turn _ _ _ c.args.name.now v.known.0 text_limit c.loop-read.left v.known.1.3 v.known.1.2 v.once v.inputs c.next_turn.ensures.gives_few

pub loop-read-init : goal.loop-read-init
loop-read-init g c =
    let i = g.I.Inputs in
    let name = c.args.name.now in
    let opened = i.state c.open.new.inputs in
    let whole = subst (λ r. RestIsWhole opened.contents name r) (sym (preceded_nil opened.rest)) c.in_ok-open.ensures.opened.found in
    record {
      selected = c.in_ok-open.ensures.opened.selected;
      inputs = c.open.ensures.asks.stays;
      no_fault = c.in_ok-open.ensures.no_fault;
      once = c.open.ensures.asks.once;
      left = omega arith;
      piece = refl;
      known = ([], (whole, c.new.ensures c.args.taker c.requires.nothing_taken, omega arith, at_open name opened c.open.ensures.asks.named));
    }

pub next_turn-requires-clause-selected : goal.next_turn-requires-clause-selected
next_turn-requires-clause-selected g c = c.loop-read.invariant.selected

pub next_turn-requires-clause-not_empty : goal.next_turn-requires-clause-not_empty
next_turn-requires-clause-not_empty g c = omega (arith, c.loop-read.invariant.piece)

pub overflow_sub-left : goal.overflow_sub-left
overflow_sub-left g c = c.in_ok-turn.ensures.reads.within_limit

pub loop-read-smaller : goal.loop-read-smaller
loop-read-smaller g c = omega (arith, c.in_ok-turn.ensures.reads.fills c.if-turn.false, c.next_turn.ensures.length, c.loop-read.invariant.piece, c.in_ok-turn.ensures.reads.within_limit)

pub returns-in_err-open-clause-memory : goal.returns-in_err-open-clause-memory
returns-in_err-open-clause-memory g c = rw (handed_on c.from_residual.result c.in_err-open.field-0.0 c.from_residual.ensures) (unopened_named (g.I.Inputs.state c.args.inputs.now) (g.I.Inputs.state c.open.new.inputs) c.args.name.now (event_of c.in_err-open.field-0.0) c.in_err-open.ensures.refused)

pub returns-in_err-turn-clause-memory : goal.returns-in_err-turn-clause-memory
returns-in_err-turn-clause-memory g c = rw (handed_on c.from_residual-in_err-turn.result c.in_err-turn.field-0.0 c.from_residual-in_err-turn.ensures)
    (turn_named (g.I.Inputs.state c.loop-read.inputs) (g.I.Inputs.state c.next_turn.new.inputs) c.args.name.now c.loop-read.left (event_of c.in_err-turn.field-0.0) c.in_err-turn.ensures.refused)

pub returns-then-turn-clause-no_fault : goal.returns-then-turn-clause-no_fault
returns-then-turn-clause-no_fault g c = no_fault_on _ _ _ c.loop-read.invariant.no_fault c.in_ok-turn.ensures.no_fault

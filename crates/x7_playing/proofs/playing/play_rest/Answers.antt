use Rattle.std.proofs.Common.{◌≡◌, [], ◌++◌, ◌-◌, length, take, length-append, length-take-le, arith, inr, sym, ◌∙◌, false, true}
use Rattle.x7_words.proofs.InputLemmas.{stays_at, stays_on, taken_none}
use Rattle.x7_forms.specs.Event.{event_of}
use Rattle.x7_playing.specs.Playing.{PlaysOn}
use Rattle.x7_playing.proofs.PlayerLemmas.{may_less, may_on, on_none, on_on}
use Rattle.x7_forms.proofs.ReadLemmas.{no_fault_at, no_fault_on, reads_none, reads_on, rest_unread}
use Rattle.x7_forms.proofs.ResultLemmas.{handed_on, from_ok}
use Rattle.x7_forms.proofs.AskedLemmas.{gives_on}
use Rattle.x7_playing.proofs.playing.play_rest.Goals as goal

pub returns-in_err-turn-clause-refused : goal.returns-in_err-turn-clause-refused
returns-in_err-turn-clause-refused g c = rw (handed_on c.from_residual.result c.in_err-turn.field-0.0 c.from_residual.ensures) (let i = g.I.Inputs in
    let v = c.loop-turn.invariant in
    inr (rest_unread (i.state c.args.inputs.now) (i.state c.loop-turn.inputs) (i.state c.next_turn.new.inputs) c.args.name.now v.known.0 c.args.limit c.loop-turn.left (event_of c.in_err-turn.field-0.0)
    c.next_turn.ensures.gives_few.stays v.known.1.2 v.known.1.0 c.in_err-turn.ensures.refused c.next_turn.ensures.gives_few.asked))

pub returns-then-last-clause-played : goal.returns-then-last-clause-played
returns-then-last-clause-played g c =
    let now = g.I.Inputs.state c.args.inputs.now in
    ([], omega arith, on_none c.args.player.now, (taken_none now.contents now.rest, c.requires.end c.if-last.true))

pub play-requires : goal.play-requires
play-requires g c =
    let n = c.in_ok-turn.turn.count in
    let size : length (take n c.next_turn.new.buffer) ≡ n = length-take-le n c.next_turn.new.buffer c.in_ok-turn.ensures.reads.within_buffer in
    may_less c.loop-turn.player c.loop-turn.left (length (take n c.next_turn.new.buffer)) (omega (arith, size, c.in_ok-turn.ensures.reads.within_limit)) c.loop-turn.invariant.may

pub returns-then-turn-clause-played : goal.returns-then-turn-clause-played
returns-then-turn-clause-played g c =
    let i = g.I.Inputs in
    let v = c.loop-turn.invariant in
    let n = c.in_ok-turn.turn.count in
    let piece = take n c.next_turn.new.buffer in
    let size : length piece ≡ n = length-take-le n c.next_turn.new.buffer c.in_ok-turn.ensures.reads.within_buffer in
    let reads = reads_on (i.state c.args.inputs.now) (i.state c.loop-turn.inputs) (i.state c.next_turn.new.inputs) v.known.0 piece v.known.1.2 c.in_ok-turn.ensures.reads.takes c.next_turn.ensures.gives_few.asked c.next_turn.ensures.gives_few.stays in
    let plays : PlaysOn c.loop-turn.player c.play.new.self piece = from_ok c.play.result (sym c.is_err.ensures.value ∙ c.if-is_err.false) c.play.ensures.played in
    (v.known.0 ++ piece, omega (arith, v.known.1.0, size, length-append v.known.0 piece, c.in_ok-turn.ensures.reads.within_limit), on_on c.args.player.now c.loop-turn.player c.play.new.self v.known.0 piece v.known.1.1 plays, (reads.takes.taken, c.in_ok-turn.ensures.reads.end c.if-turn.true))

pub loop-turn-preserved : goal.loop-turn-preserved
loop-turn-preserved g c =
    let i = g.I.Inputs in
    let v = c.loop-turn.invariant in
    let n = c.in_ok-turn.turn.count in
    let piece = take n c.next_turn.new.buffer in
    let size : length piece ≡ n = length-take-le n c.next_turn.new.buffer c.in_ok-turn.ensures.reads.within_buffer in
    let reads = reads_on (i.state c.args.inputs.now) (i.state c.loop-turn.inputs) (i.state c.next_turn.new.inputs) v.known.0 piece v.known.1.2 c.in_ok-turn.ensures.reads.takes c.next_turn.ensures.gives_few.asked c.next_turn.ensures.gives_few.stays in
    let plays : PlaysOn c.loop-turn.player c.play.new.self piece = from_ok c.play.result (sym c.is_err.ensures.value ∙ c.if-is_err.false) c.play.ensures.played in
    record {
      selected = c.in_ok-turn.ensures.reads.takes.selected;
      inputs = stays_on _ _ _ v.inputs c.next_turn.ensures.gives_few.stays;
      no_fault = no_fault_on _ _ _ v.no_fault c.in_ok-turn.ensures.no_fault;
      ends = omega (arith, v.ends, c.in_ok-turn.ensures.reads.no_end_read c.if-turn.false);
      left = omega (arith, v.left);
      piece = c.next_turn.ensures.length ∙ v.piece;
      may = may_on c.loop-turn.player c.play.new.self piece c.loop-turn.left (c.loop-turn.left - n) (omega (arith, size, c.in_ok-turn.ensures.reads.within_limit)) plays v.may;
      known = (v.known.0 ++ piece, (omega (arith, v.known.1.0, size, length-append v.known.0 piece, c.in_ok-turn.ensures.reads.within_limit), on_on c.args.player.now c.loop-turn.player c.play.new.self v.known.0 piece v.known.1.1 plays, reads));
    }

pub loop-turn-init : goal.loop-turn-init
loop-turn-init g c = record {
  selected = c.requires.selected;
  inputs = stays_at _;
  no_fault = no_fault_at _;
  ends = omega arith;
  left = omega arith;
  piece = c.requires.buffer;
  may = c.requires.may_play;
  known = ([], (omega arith, on_none c.args.player.now, reads_none (g.I.Inputs.state c.args.inputs.now) c.requires.selected));
}

pub returns-in_err-turn-clause-gives_few : goal.returns-in_err-turn-clause-gives_few
returns-in_err-turn-clause-gives_few g c =
    let i = g.I.Inputs in
    let v = c.loop-turn.invariant in
    gives_on (i.state c.args.inputs.now) (i.state c.loop-turn.inputs) (i.state c.next_turn.new.inputs) v.known.0 c.args.limit c.loop-turn.left v.known.1.2 v.known.1.0 v.ends c.next_turn.ensures.gives_few

pub returns-then-turn-clause-gives_few : goal.returns-then-turn-clause-gives_few
returns-then-turn-clause-gives_few g c =
    let i = g.I.Inputs in
    let v = c.loop-turn.invariant in
    gives_on (i.state c.args.inputs.now) (i.state c.loop-turn.inputs) (i.state c.next_turn.new.inputs) v.known.0 c.args.limit c.loop-turn.left v.known.1.2 v.known.1.0 v.ends c.next_turn.ensures.gives_few

pub returns-then-turn-clause-no_fault : goal.returns-then-turn-clause-no_fault
returns-then-turn-clause-no_fault g c = no_fault_on _ _ _ c.loop-turn.invariant.no_fault c.in_ok-turn.ensures.no_fault

pub returns-in_err-turn-clause-no_end_read : goal.returns-in_err-turn-clause-no_end_read
returns-in_err-turn-clause-no_end_read g c = λ e. let never : false ≡ true = sym c.if-last.false ∙ e in absurd cc

pub returns-then-is_err-clause-no_end_read : goal.returns-then-is_err-clause-no_end_read
returns-then-is_err-clause-no_end_read g c = λ e. let never : false ≡ true = sym c.if-last.false ∙ e in absurd cc

pub returns-then-turn-clause-no_end_read : goal.returns-then-turn-clause-no_end_read
returns-then-turn-clause-no_end_read g c = λ e. let never : false ≡ true = sym c.if-last.false ∙ e in absurd cc

pub loop-turn-smaller : goal.loop-turn-smaller
loop-turn-smaller g c = omega (arith, c.in_ok-turn.ensures.reads.fills c.if-turn.false, c.next_turn.ensures.length, c.loop-turn.invariant.piece, c.in_ok-turn.ensures.reads.within_limit)

pub next_turn-requires-clause-not_empty : goal.next_turn-requires-clause-not_empty
next_turn-requires-clause-not_empty g c = omega (arith, c.loop-turn.invariant.piece)

pub next_turn-requires-clause-selected : goal.next_turn-requires-clause-selected
next_turn-requires-clause-selected g c = c.loop-turn.invariant.selected

pub overflow_sub-left : goal.overflow_sub-left
overflow_sub-left g c = c.in_ok-turn.ensures.reads.within_limit

pub returns-in_err-turn-clause-length : goal.returns-in_err-turn-clause-length
returns-in_err-turn-clause-length g c = c.next_turn.ensures.length ∙ c.loop-turn.invariant.piece ∙ sym c.requires.buffer

pub returns-then-is_err-clause-gives_few : goal.returns-then-is_err-clause-gives_few
returns-then-is_err-clause-gives_few g c =
    let i = g.I.Inputs in
    let v = c.loop-turn.invariant in
    gives_on (i.state c.args.inputs.now) (i.state c.loop-turn.inputs) (i.state c.next_turn.new.inputs) v.known.0 c.args.limit c.loop-turn.left v.known.1.2 v.known.1.0 v.ends c.next_turn.ensures.gives_few

pub slice_bounds-play-end-in-loop-turn : goal.slice_bounds-play-end-in-loop-turn
slice_bounds-play-end-in-loop-turn g c =
    sym (length-take-le c.in_ok-turn.turn.count c.next_turn.new.buffer c.in_ok-turn.ensures.reads.within_buffer)

pub slice_bounds-play-end : goal.slice_bounds-play-end
slice_bounds-play-end g c = c.in_ok-turn.ensures.reads.within_buffer

pub returns-then-is_err-clause-length : goal.returns-then-is_err-clause-length
returns-then-is_err-clause-length g c = c.next_turn.ensures.length ∙ c.loop-turn.invariant.piece ∙ sym c.requires.buffer

pub returns-then-turn-clause-length : goal.returns-then-turn-clause-length
returns-then-turn-clause-length g c = c.next_turn.ensures.length ∙ c.loop-turn.invariant.piece ∙ sym c.requires.buffer

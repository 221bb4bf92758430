use Rattle.std.proofs.Common.{◌≡◌, ◌-◌, ◌<◌, ◌++◌, Option, Some, ℕ, List, length, take, sym, ap, subst, ◌∙◌, arith}
use Rattle.std.specs.Option.{is_some}
use Rattle.x7_packets.specs.Cutter.{CutterState, calls_left}
use Rattle.x7_engine.specs.declared.fed.Fed.{Fed}
use Rattle.x7_engine.specs.declared.stop.StopCause.{StopCause}
use Rattle.x7_engine.specs.Feeding.{GivesWordsOfFirst, TakesFirst, with_buffer}
use Rattle.x7_engine.specs.Past.{AnswersAt, past_of}
use Rattle.x7_engine.specs.Standing.{DeviceState, answer_at_stop, due_count, taken_in}
use Rattle.x7_engine.specs.Stop.{stop_at_place}
use Rattle.x7_engine.proofs.FeedLemmas.{answers_stop, fewer_left, none_before, some_due, taken_by_stop}
use Rattle.x7_engine.proofs.FeedingLemmas.{gives_due, gives_none, gives_round, takes_given, takes_none, takes_round}
use Rattle.x7_engine.proofs.device.Device.feed.Goals as goal

pub runs-init : goal.runs-init
runs-init c = record {
  takes = takes_none c.args.self.now c.args.piece.now;
  gives = gives_none (with_buffer c.args.self.now c.args.read.now) c.args.piece.now c.holds_within_most.ensures;
  fits = omega (arith, c.requires);
}

-- ---- a stop

-- how many bytes were taken at a stop
stop_count : (c : goal.After-answer_at_stop) → taken_in (length c.args.piece.now) c.answer_at_stop.result ≡ c.runs.at
stop_count c = ap (taken_in (length c.args.piece.now)) c.answer_at_stop.ensures ∙ taken_by_stop c.in-Some.stop (length c.args.piece.now) c.runs.at

pub returns-in-Some-clause-takes : goal.returns-in-Some-clause-takes
returns-in-Some-clause-takes c = subst (TakesFirst c.args.self.now c.runs.self c.args.piece.now) (sym (stop_count c)) c.runs.invariant.takes

pub returns-in-Some-clause-gives : goal.returns-in-Some-clause-gives
returns-in-Some-clause-gives c = subst (GivesWordsOfFirst (with_buffer c.args.self.now c.args.read.now) (with_buffer c.runs.self c.runs.read) c.args.piece.now) (sym (stop_count c)) c.runs.invariant.gives

pub returns-in-Some-clause-answers_stop : goal.returns-in-Some-clause-answers_stop
returns-in-Some-clause-answers_stop c = λ why e.
    let same = c.runs.invariant.takes.stopped (ap (λ (o : Option StopCause). is_some o) e) in
    let stop : Some c.in-Some.stop ≡ Some why = c.in-Some.ensures ∙ ap (λ (d : DeviceState). d.registers.values.stop) same.0 ∙ e in
    let cause : c.in-Some.stop ≡ why = cc in
    c.answer_at_stop.ensures ∙ ap (λ (s : StopCause). answer_at_stop s c.runs.at) cause ∙ ap (answer_at_stop why) same.1

pub returns-in-Some-clause-answer : goal.returns-in-Some-clause-answer
returns-in-Some-clause-answer c = λ part kept wrapped bytes s.
    let piece : List ℕ = c.args.piece.now in
    subst (λ (r : Fed). AnswersAt (past_of part kept wrapped (bytes ++ take (taken_in (length piece) r) piece)) c.runs.self c.runs.read r) (sym c.answer_at_stop.ensures)
    (subst (λ (k : ℕ). AnswersAt (past_of part kept wrapped (bytes ++ take k piece)) c.runs.self c.runs.read (answer_at_stop c.in-Some.stop c.runs.at)) (sym (taken_by_stop c.in-Some.stop (length piece) c.runs.at))
    (answers_stop part kept wrapped c.runs.self (bytes ++ take c.runs.at piece) c.runs.read c.in-Some.stop c.runs.at (c.runs.invariant.takes.stands part kept wrapped bytes s) c.in-Some.ensures))

-- ---- words due

pub returns-then-not-give-clause-takes : goal.returns-then-not-give-clause-takes
returns-then-not-give-clause-takes c =
    takes_given (with_buffer c.args.self.now c.args.read.now) (with_buffer c.runs.self c.runs.read) (with_buffer c.give.new.self c.give.new.read) c.args.piece.now c.runs.at c.in_default.ensures c.give.ensures.gives c.runs.invariant.takes

pub returns-then-not-give-clause-gives : goal.returns-then-not-give-clause-gives
returns-then-not-give-clause-gives c =
    gives_due (with_buffer c.args.self.now c.args.read.now) (with_buffer c.runs.self c.runs.read) (with_buffer c.give.new.self c.give.new.read) c.args.piece.now c.runs.at c.in_default.ensures c.give.ensures.gives
    c.runs.invariant.takes c.runs.invariant.gives

pub returns-then-not-give-clause-answer : goal.returns-then-not-give-clause-answer
returns-then-not-give-clause-answer c = λ part kept wrapped bytes s.
    let taken : List ℕ = bytes ++ take c.runs.at c.args.piece.now in
    let stands = c.give.ensures.gives.stands part kept wrapped taken (c.runs.invariant.takes.stands part kept wrapped bytes s) in
    let due : 0 < due_count c.give.new.self.registers.values.due = some_due (due_count c.give.new.self.registers.values.due) c.give.result c.give.ensures.none_left c.if-not-give.true in
    (stands.stop_is ∙ ap (stop_at_place (length taken)) c.give.ensures.gives.going, due, c.give.ensures.gives.full due)

pub returns-then-not-give-clause-answers_stop : goal.returns-then-not-give-clause-answers_stop
returns-then-not-give-clause-answers_stop c = λ why e. absurd (none_before c.args.self.now c.runs.self (λ e. (c.runs.invariant.takes.stopped e).0) c.in_default.ensures (ap (λ (o : Option StopCause). is_some o) e))

-- ---- a turn more

pub returns-then-turn-clause-takes : goal.returns-then-turn-clause-takes
returns-then-turn-clause-takes c =
    subst (TakesFirst c.args.self.now c.turn.new.self c.args.piece.now) (c.turn.ensures.used_up c.if-turn.true).all
    (takes_round (with_buffer c.args.self.now c.args.read.now) (with_buffer c.runs.self c.runs.read) (with_buffer c.give.new.self c.give.new.read) c.turn.new.self c.args.piece.now c.runs.at c.turn.new.at
    c.in_default.ensures c.give.ensures.gives c.turn.ensures.turned c.runs.invariant.takes)

pub returns-then-turn-clause-gives : goal.returns-then-turn-clause-gives
returns-then-turn-clause-gives c =
    subst (GivesWordsOfFirst (with_buffer c.args.self.now c.args.read.now) (with_buffer c.turn.new.self c.give.new.read) c.args.piece.now) (c.turn.ensures.used_up c.if-turn.true).all
    (gives_round (with_buffer c.args.self.now c.args.read.now) (with_buffer c.runs.self c.runs.read) (with_buffer c.give.new.self c.give.new.read) c.turn.new.self c.args.piece.now c.runs.at c.turn.new.at
    c.in_default.ensures c.give.ensures.gives (c.give.ensures.none_left.0 c.if-not-give.false) c.turn.ensures.turned c.runs.invariant.takes c.runs.invariant.gives)

pub returns-then-turn-clause-answers_stop : goal.returns-then-turn-clause-answers_stop
returns-then-turn-clause-answers_stop c = λ why e. absurd (none_before c.args.self.now c.runs.self (λ e. (c.runs.invariant.takes.stopped e).0) c.in_default.ensures (ap (λ (o : Option StopCause). is_some o) e))

pub returns-then-turn-clause-answer : goal.returns-then-turn-clause-answer
returns-then-turn-clause-answer c = λ part kept wrapped bytes s.
    let used = c.turn.ensures.used_up c.if-turn.true in
    let stands = (returns-then-turn-clause-takes c).stands part kept wrapped bytes s in
    (stands.stop_is ∙ ap (stop_at_place (length (bytes ++ take (length c.args.piece.now) c.args.piece.now))) used.going, used.no_word_due)

pub runs-smaller : goal.runs-smaller
runs-smaller c =
    let left : ℕ = length c.args.piece.now - c.runs.at in
    fewer_left c.runs.self.registers.values.stop c.turn.new.self.registers.values.stop (calls_left c.runs.self.cutter left) (calls_left c.turn.new.self.cutter (length c.args.piece.now - c.turn.new.at)) (sym (ap (λ (o : Option StopCause). is_some o) c.in_default.ensures))
    (λ going. let nearer = c.turn.ensures.goes_on c.if-turn.false going in let same = ap (λ (k : CutterState). calls_left k left) c.give.ensures.gives.cutter in omega (arith, nearer, same))

pub runs-preserved : goal.runs-preserved
runs-preserved c = record {
  takes = takes_round (with_buffer c.args.self.now c.args.read.now) (with_buffer c.runs.self c.runs.read) (with_buffer c.give.new.self c.give.new.read) c.turn.new.self c.args.piece.now c.runs.at c.turn.new.at
      c.in_default.ensures c.give.ensures.gives c.turn.ensures.turned c.runs.invariant.takes;
  gives = gives_round (with_buffer c.args.self.now c.args.read.now) (with_buffer c.runs.self c.runs.read) (with_buffer c.give.new.self c.give.new.read) c.turn.new.self c.args.piece.now c.runs.at c.turn.new.at
      c.in_default.ensures c.give.ensures.gives (c.give.ensures.none_left.0 c.if-not-give.false) c.turn.ensures.turned c.runs.invariant.takes c.runs.invariant.gives;
  fits = omega (arith, c.give.ensures.gives.taken, c.turn.ensures.turned.taken, c.turn.ensures.turned.forward, c.turn.ensures.turned.within, c.runs.invariant.fits);
}

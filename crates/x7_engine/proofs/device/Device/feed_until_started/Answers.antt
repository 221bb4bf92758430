use Rattle.std.proofs.Common.{◌≡◌, ◌-◌, ◌<◌, ◌++◌, ℕ, false, Option, List, length, take, sym, ap, subst, ◌∙◌, arith}
use Rattle.std.specs.Option.{is_some}
use Rattle.x7_packets.specs.Cutter.{CutterState, calls_left}
use Rattle.x7_engine.specs.declared.fed.Fed.TheVariants as fed
use Rattle.x7_engine.specs.declared.stop.StopCause.{StopCause}
use Rattle.x7_engine.specs.Past.{AnswersAt, AnswersUntilAt, past_of}
use Rattle.x7_engine.specs.Standing.{DeviceStandsFor, due_count, taken_in}
use Rattle.x7_engine.specs.Stop.{stop_at_place}
use Rattle.x7_engine.specs.UntilStarted.{NoneStarted, has_started, says_started, taken_until}
use Rattle.x7_engine.proofs.FeedLemmas.{answers_stop, fewer_left, some_due, stands_on, taken_by_stop}
use Rattle.x7_engine.specs.Feeding.{GivesWordsOfFirst, TakesFirst, with_buffer}
use Rattle.x7_engine.proofs.FeedingLemmas.{gives_due, gives_none, gives_round, takes_given, takes_none, takes_round}
use Rattle.x7_engine.proofs.UntilLemmas.{answers_until, count_is, none_on, says_answer}
use Rattle.x7_engine.proofs.device.Device.feed_until_started.Goals as goal

pub runs-init : goal.runs-init
runs-init c = record {
  takes = takes_none c.args.self.now c.args.piece.now;
  gives = gives_none (with_buffer c.args.self.now c.args.read.now) c.args.piece.now c.holds_within_most.ensures;
  first = λ part kept wrapped bytes s k l. absurd (omega (arith, l));
  fits = omega (arith, c.requires);
}

-- ---- a stop

stop_count : (c : goal.After-answer) → taken_until (length c.args.piece.now) c.answer.result ≡ c.runs.at
stop_count c =
    count_is c.answer.result c.started.result c.answer_at_stop.result (length c.args.piece.now) c.runs.at c.answer.ensures
    (ap (taken_in (length c.args.piece.now)) c.answer_at_stop.ensures ∙ taken_by_stop c.in-Some.stop (length c.args.piece.now) c.runs.at)

pub returns-in-Some-clause-takes : goal.returns-in-Some-clause-takes
returns-in-Some-clause-takes c = subst (TakesFirst c.args.self.now c.runs.self c.args.piece.now) (sym (stop_count c)) c.runs.invariant.takes

pub returns-in-Some-clause-first : goal.returns-in-Some-clause-first
returns-in-Some-clause-first c = λ part kept wrapped bytes s. subst (NoneStarted part kept bytes c.args.piece.now) (sym (stop_count c)) (c.runs.invariant.first part kept wrapped bytes s)

pub returns-in-Some-clause-started : goal.returns-in-Some-clause-started
returns-in-Some-clause-started c = λ part kept wrapped bytes s due.
    ap says_started c.answer.ensures ∙ says_answer c.started.result c.answer_at_stop.result c.runs.at
    ∙ c.started.ensures part kept wrapped (bytes ++ take c.runs.at c.args.piece.now) (c.runs.invariant.takes.stands part kept wrapped bytes s)
    ∙ ap (λ (k : ℕ). has_started part kept (bytes ++ take k c.args.piece.now)) (sym (stop_count c))

pub returns-in-Some-clause-answer : goal.returns-in-Some-clause-answer
returns-in-Some-clause-answer c = λ part kept wrapped bytes s.
    let piece : List ℕ = c.args.piece.now in
    let here : DeviceStandsFor part kept wrapped c.runs.self (bytes ++ take c.runs.at piece) = c.runs.invariant.takes.stands part kept wrapped bytes s in
    let answers : AnswersAt (past_of part kept wrapped (bytes ++ take c.runs.at piece)) c.runs.self c.runs.read c.answer_at_stop.result =
    subst (AnswersAt (past_of part kept wrapped (bytes ++ take c.runs.at piece)) c.runs.self c.runs.read) (sym c.answer_at_stop.ensures) (answers_stop part kept wrapped c.runs.self (bytes ++ take c.runs.at piece) c.runs.read c.in-Some.stop c.runs.at here c.in-Some.ensures) in
    subst (λ (k : ℕ). AnswersUntilAt (past_of part kept wrapped (bytes ++ take k piece)) c.runs.self c.runs.read c.answer.result) (sym (stop_count c))
    (subst (AnswersUntilAt (past_of part kept wrapped (bytes ++ take c.runs.at piece)) c.runs.self c.runs.read) (sym c.answer.ensures)
    (answers_until (past_of part kept wrapped (bytes ++ take c.runs.at piece)) c.runs.self c.runs.read c.started.result c.answer_at_stop.result c.runs.at (here.none_due_at_stop c.in-Some.stop (sym c.in-Some.ensures)) answers))

pub returns-in-Some-clause-gives : goal.returns-in-Some-clause-gives
returns-in-Some-clause-gives c = subst (GivesWordsOfFirst (with_buffer c.args.self.now c.args.read.now) (with_buffer c.runs.self c.runs.read) c.args.piece.now) (sym (stop_count c)) c.runs.invariant.gives

-- ---- words due

pub returns-then-not-give-clause-first : goal.returns-then-not-give-clause-first
returns-then-not-give-clause-first c = c.runs.invariant.first

pub returns-then-not-give-clause-started : goal.returns-then-not-give-clause-started
returns-then-not-give-clause-started c = λ part kept wrapped bytes s none. absurd (omega (arith, none, some_due (due_count c.give.new.self.registers.values.due) c.give.result c.give.ensures.none_left c.if-not-give.true))

pub returns-then-not-give-clause-answer : goal.returns-then-not-give-clause-answer
returns-then-not-give-clause-answer c = λ part kept wrapped bytes s.
    let taken : List ℕ = bytes ++ take c.runs.at c.args.piece.now in
    let stands = c.give.ensures.gives.stands part kept wrapped taken (c.runs.invariant.takes.stands part kept wrapped bytes s) in
    let due : 0 < due_count c.give.new.self.registers.values.due = some_due (due_count c.give.new.self.registers.values.due) c.give.result c.give.ensures.none_left c.if-not-give.true in
    (stands.stop_is ∙ ap (stop_at_place (length taken)) c.give.ensures.gives.going, due, c.give.ensures.gives.full due)

pub returns-then-not-give-clause-takes : goal.returns-then-not-give-clause-takes
returns-then-not-give-clause-takes c =
    takes_given (with_buffer c.args.self.now c.args.read.now) (with_buffer c.runs.self c.runs.read) (with_buffer c.give.new.self c.give.new.read) c.args.piece.now c.runs.at c.in_default.ensures c.give.ensures.gives c.runs.invariant.takes

pub returns-then-not-give-clause-gives : goal.returns-then-not-give-clause-gives
returns-then-not-give-clause-gives c =
    gives_due (with_buffer c.args.self.now c.args.read.now) (with_buffer c.runs.self c.runs.read) (with_buffer c.give.new.self c.give.new.read) c.args.piece.now c.runs.at c.in_default.ensures c.give.ensures.gives c.runs.invariant.takes c.runs.invariant.gives

-- ---- startup has ended

pub returns-then-started-clause-first : goal.returns-then-started-clause-first
returns-then-started-clause-first c = c.runs.invariant.first

pub returns-then-started-clause-answer : goal.returns-then-started-clause-answer
returns-then-started-clause-answer c = λ part kept wrapped bytes s. c.give.ensures.none_left.0 c.if-not-give.false

pub returns-then-started-clause-takes : goal.returns-then-started-clause-takes
returns-then-started-clause-takes c =
    takes_given (with_buffer c.args.self.now c.args.read.now) (with_buffer c.runs.self c.runs.read) (with_buffer c.give.new.self c.give.new.read) c.args.piece.now c.runs.at c.in_default.ensures c.give.ensures.gives c.runs.invariant.takes

pub returns-then-started-clause-started : goal.returns-then-started-clause-started
returns-then-started-clause-started c = λ part kept wrapped bytes s due.
    let taken : List ℕ = bytes ++ take c.runs.at c.args.piece.now in
    sym c.if-started.true ∙ c.started-in-runs.ensures part kept wrapped taken (c.give.ensures.gives.stands part kept wrapped taken (c.runs.invariant.takes.stands part kept wrapped bytes s))

pub returns-then-started-clause-gives : goal.returns-then-started-clause-gives
returns-then-started-clause-gives c =
    gives_due (with_buffer c.args.self.now c.args.read.now) (with_buffer c.runs.self c.runs.read) (with_buffer c.give.new.self c.give.new.read) c.args.piece.now c.runs.at c.in_default.ensures c.give.ensures.gives c.runs.invariant.takes c.runs.invariant.gives

-- ---- the piece is used up

end_count : (c : goal.After-answer-then-turn_until_started) → taken_until (length c.args.piece.now) c.answer-then-turn_until_started.result ≡ c.turn_until_started.new.at
end_count c =
    count_is c.answer-then-turn_until_started.result c.started-then-turn_until_started.result fed.All (length c.args.piece.now) c.turn_until_started.new.at c.answer-then-turn_until_started.ensures
    (sym (c.turn_until_started.ensures.took.used_up c.if-turn_until_started.true).all)

pub returns-then-turn_until_started-clause-takes : goal.returns-then-turn_until_started-clause-takes
returns-then-turn_until_started-clause-takes c =
    subst (TakesFirst c.args.self.now c.turn_until_started.new.self c.args.piece.now) (sym (end_count c))
    (takes_round (with_buffer c.args.self.now c.args.read.now) (with_buffer c.runs.self c.runs.read) (with_buffer c.give.new.self c.give.new.read) c.turn_until_started.new.self c.args.piece.now c.runs.at c.turn_until_started.new.at
    c.in_default.ensures c.give.ensures.gives c.turn_until_started.ensures.took.turned c.runs.invariant.takes)

pub returns-then-turn_until_started-clause-first : goal.returns-then-turn_until_started-clause-first
returns-then-turn_until_started-clause-first c = λ part kept wrapped bytes s.
    let piece : List ℕ = c.args.piece.now in
    let at : ℕ = c.turn_until_started.new.at in
    let taken : List ℕ = bytes ++ take c.runs.at piece in
    let given = c.give.ensures.gives.stands part kept wrapped taken (c.runs.invariant.takes.stands part kept wrapped bytes s) in
    let not : has_started part kept taken ≡ false = sym (c.started-in-runs.ensures part kept wrapped taken given) ∙ c.if-started.false in
    subst (NoneStarted part kept bytes piece) (sym (end_count c))
    (none_on part kept bytes piece c.runs.at at c.turn_until_started.ensures.took.turned.forward (c.runs.invariant.first part kept wrapped bytes s) (c.turn_until_started.ensures.first part kept wrapped taken given not))

pub returns-then-turn_until_started-clause-started : goal.returns-then-turn_until_started-clause-started
returns-then-turn_until_started-clause-started c = λ part kept wrapped bytes s due.
    let piece : List ℕ = c.args.piece.now in
    let at : ℕ = c.turn_until_started.new.at in
    let taken : List ℕ = bytes ++ take c.runs.at piece in
    let given = c.give.ensures.gives.stands part kept wrapped taken (c.runs.invariant.takes.stands part kept wrapped bytes s) in
    let here : DeviceStandsFor part kept wrapped c.turn_until_started.new.self (bytes ++ take at piece) =
    stands_on part kept wrapped c.give.new.self c.turn_until_started.new.self bytes piece c.runs.at at c.turn_until_started.ensures.took.turned.forward (c.turn_until_started.ensures.took.turned.turn.takes part kept wrapped) given in
    ap says_started c.answer-then-turn_until_started.ensures ∙ says_answer c.started-then-turn_until_started.result fed.All at
    ∙ c.started-then-turn_until_started.ensures part kept wrapped (bytes ++ take at piece) here
    ∙ ap (λ (k : ℕ). has_started part kept (bytes ++ take k piece)) (sym (end_count c))

pub returns-then-turn_until_started-clause-answer : goal.returns-then-turn_until_started-clause-answer
returns-then-turn_until_started-clause-answer c = λ part kept wrapped bytes s.
    let piece : List ℕ = c.args.piece.now in
    let at : ℕ = c.turn_until_started.new.at in
    let all : List ℕ = bytes ++ take at piece in
    let used = c.turn_until_started.ensures.took.used_up c.if-turn_until_started.true in
    let taken : List ℕ = bytes ++ take c.runs.at piece in
    let given = c.give.ensures.gives.stands part kept wrapped taken (c.runs.invariant.takes.stands part kept wrapped bytes s) in
    let here : DeviceStandsFor part kept wrapped c.turn_until_started.new.self all =
    stands_on part kept wrapped c.give.new.self c.turn_until_started.new.self bytes piece c.runs.at at c.turn_until_started.ensures.took.turned.forward (c.turn_until_started.ensures.took.turned.turn.takes part kept wrapped) given in
    subst (λ (k : ℕ). AnswersUntilAt (past_of part kept wrapped (bytes ++ take k piece)) c.turn_until_started.new.self c.give.new.read c.answer-then-turn_until_started.result) (sym (end_count c))
    (subst (AnswersUntilAt (past_of part kept wrapped all) c.turn_until_started.new.self c.give.new.read) (sym c.answer-then-turn_until_started.ensures)
    (answers_until (past_of part kept wrapped all) c.turn_until_started.new.self c.give.new.read c.started-then-turn_until_started.result fed.All at used.no_word_due (here.stop_is ∙ ap (stop_at_place (length all)) used.going, used.no_word_due)))

pub returns-then-turn_until_started-clause-gives : goal.returns-then-turn_until_started-clause-gives
returns-then-turn_until_started-clause-gives c =
    subst (GivesWordsOfFirst (with_buffer c.args.self.now c.args.read.now) (with_buffer c.turn_until_started.new.self c.give.new.read) c.args.piece.now) (sym (end_count c))
    (gives_round (with_buffer c.args.self.now c.args.read.now) (with_buffer c.runs.self c.runs.read) (with_buffer c.give.new.self c.give.new.read) c.turn_until_started.new.self c.args.piece.now c.runs.at c.turn_until_started.new.at
    c.in_default.ensures c.give.ensures.gives (c.give.ensures.none_left.0 c.if-not-give.false) c.turn_until_started.ensures.took.turned c.runs.invariant.takes c.runs.invariant.gives)

-- ---- a turn more

pub runs-smaller : goal.runs-smaller
runs-smaller c =
    let left : ℕ = length c.args.piece.now - c.runs.at in
    fewer_left c.runs.self.registers.values.stop c.turn_until_started.new.self.registers.values.stop (calls_left c.runs.self.cutter left)
    (calls_left c.turn_until_started.new.self.cutter (length c.args.piece.now - c.turn_until_started.new.at)) (sym (ap (λ (o : Option StopCause). is_some o) c.in_default.ensures))
    (λ going. let nearer = c.turn_until_started.ensures.took.goes_on c.if-turn_until_started.false going in let same = ap (λ (k : CutterState). calls_left k left) c.give.ensures.gives.cutter in omega (arith, nearer, same))

pub runs-preserved : goal.runs-preserved
runs-preserved c =
    let piece : List ℕ = c.args.piece.now in
    let at : ℕ = c.turn_until_started.new.at in
    let same : c.give.new.self.taken ≡ c.runs.self.taken = c.give.ensures.gives.taken in
    record {
      takes = takes_round (with_buffer c.args.self.now c.args.read.now) (with_buffer c.runs.self c.runs.read) (with_buffer c.give.new.self c.give.new.read) c.turn_until_started.new.self c.args.piece.now c.runs.at c.turn_until_started.new.at
          c.in_default.ensures c.give.ensures.gives c.turn_until_started.ensures.took.turned c.runs.invariant.takes;
      gives = gives_round (with_buffer c.args.self.now c.args.read.now) (with_buffer c.runs.self c.runs.read) (with_buffer c.give.new.self c.give.new.read) c.turn_until_started.new.self c.args.piece.now c.runs.at c.turn_until_started.new.at
          c.in_default.ensures c.give.ensures.gives (c.give.ensures.none_left.0 c.if-not-give.false) c.turn_until_started.ensures.took.turned c.runs.invariant.takes c.runs.invariant.gives;
      fits = omega (arith, same, c.turn_until_started.ensures.took.turned.taken, c.turn_until_started.ensures.took.turned.forward, c.turn_until_started.ensures.took.turned.within, c.runs.invariant.fits);
      first = λ part kept wrapped bytes s.
          let taken : List ℕ = bytes ++ take c.runs.at piece in
          let given = c.give.ensures.gives.stands part kept wrapped taken (c.runs.invariant.takes.stands part kept wrapped bytes s) in
          let not : has_started part kept taken ≡ false = sym (c.started-in-runs.ensures part kept wrapped taken given) ∙ c.if-started.false in
          none_on part kept bytes piece c.runs.at at c.turn_until_started.ensures.took.turned.forward (c.runs.invariant.first part kept wrapped bytes s) (c.turn_until_started.ensures.first part kept wrapped taken given not);
    }

use Rattle.std.proofs.Common.{◌≡◌, ◌-◌, ◌<◌, ◌++◌, ℕ, zero, suc, true, false, inl, inr, List, length, take, Option, None, Some, sym, ap, subst, ◌∙◌, refl, arith}
use Rattle.std.specs.Option.{is_some}
use Rattle.x7_packets.specs.Cutter.{CutterState, calls_left}
use Rattle.x7_engine.specs.declared.stop.StopCause.{StopCause}
use Rattle.x7_engine.specs.ReadBuffer.{IsFull, IsFullBy, ReadBufState}
use Rattle.x7_engine.specs.Standing.{DeviceStandsFor, NoWordDue}
use Rattle.x7_engine.specs.Feeding.{with_buffer}
use Rattle.x7_engine.proofs.FeedLemmas.{fewer_left}
use Rattle.x7_engine.proofs.FeedingLemmas.{takes_given, takes_none, takes_round}
use Rattle.x7_engine.proofs.UntilLemmas.{unbegun_on}
use Rattle.x7_engine.proofs.device.Device.feed_until_begun.Goals as goal

pub runs-init : goal.runs-init
runs-init c = record {
  takes = takes_none c.args.self.now c.args.piece.now;
  fits = omega (arith, c.requires);
  drops = λ part kept wrapped bytes s. ap (λ (b : ReadBufState). b.most) c.dropping-read.ensures;
  first = λ part kept wrapped bytes s k l. absurd (omega (arith, l));
}

-- where the question whether there is a stop is answered with no, there is none
going_on : (o stop : Option StopCause) → o ≡ stop → is_some o ≡ false → None ≡ stop
going_on None stop e none = e
going_on (Some why) stop e none = absurd cc

-- what holds for each cause of a stop holds where there is a stop
by_stop : (o : Option StopCause) (P : Type 0) → is_some o ≡ true → ((why : StopCause) → o ≡ Some why → P) → P
by_stop None P e f = absurd cc
by_stop (Some why) P e f = f why refl

pub returns-then-is_some-clause-takes : goal.returns-then-is_some-clause-takes
returns-then-is_some-clause-takes c = c.runs.invariant.takes

pub returns-then-is_some-clause-first : goal.returns-then-is_some-clause-first
returns-then-is_some-clause-first c = c.runs.invariant.first

pub returns-then-is_some-clause-ends : goal.returns-then-is_some-clause-ends
returns-then-is_some-clause-ends c = λ part kept wrapped bytes s l. inl (ap (λ (o : Option StopCause). is_some o) (sym c.stop.ensures) ∙ sym c.is_some.ensures ∙ c.if-is_some.true)

pub returns-then-is_some-clause-no_word_due : goal.returns-then-is_some-clause-no_word_due
returns-then-is_some-clause-no_word_due c = λ part kept wrapped bytes s.
    by_stop c.stop.result (NoWordDue c.runs.self) (sym c.is_some.ensures ∙ c.if-is_some.true) (λ why e. (c.runs.invariant.takes.stands part kept wrapped bytes s).none_due_at_stop why (sym c.stop.ensures ∙ e))

-- no word stays due with a dropping buffer, which is never full
none_full : (n : ℕ) (b : ReadBufState) → b.most ≡ None → (0 < n → IsFull b) → n ≡ 0
none_full zero b e f = refl
none_full (suc n) b e f = absurd (subst (λ (o : Option ℕ). IsFullBy o (length b.words)) e (f (omega arith)))

pub returns-then-not-give-clause-first : goal.returns-then-not-give-clause-first
returns-then-not-give-clause-first c = c.runs.invariant.first

pub returns-then-not-give-clause-takes : goal.returns-then-not-give-clause-takes
returns-then-not-give-clause-takes c =
    takes_given (with_buffer c.args.self.now c.dropping-read.result) (with_buffer c.runs.self c.runs.read) (with_buffer c.give.new.self c.give.new.read) c.args.piece.now c.runs.at (going_on c.stop.result c.runs.self.registers.values.stop c.stop.ensures (sym c.is_some.ensures ∙ c.if-is_some.false)) c.give.ensures.gives c.runs.invariant.takes

pub returns-then-not-give-clause-no_word_due : goal.returns-then-not-give-clause-no_word_due
returns-then-not-give-clause-no_word_due c = λ part kept wrapped bytes s.
    let given = c.give.ensures.gives.given part kept wrapped (bytes ++ take c.runs.at c.args.piece.now) (c.runs.invariant.takes.stands part kept wrapped bytes s) in
    none_full _ c.give.new.read (ap (λ (b : ReadBufState). b.most) given.1 ∙ c.runs.invariant.drops part kept wrapped bytes s) c.give.ensures.gives.full

pub returns-then-not-give-clause-ends : goal.returns-then-not-give-clause-ends
returns-then-not-give-clause-ends c = λ part kept wrapped bytes s l.
    let given = c.give.ensures.gives.given part kept wrapped (bytes ++ take c.runs.at c.args.piece.now) (c.runs.invariant.takes.stands part kept wrapped bytes s) in
    let none : NoWordDue c.give.new.self = none_full _ c.give.new.read (ap (λ (b : ReadBufState). b.most) given.1 ∙ c.runs.invariant.drops part kept wrapped bytes s) c.give.ensures.gives.full in
    let yes : c.give.result ≡ true = c.give.ensures.none_left.1 none in
    let no : c.give.result ≡ false = c.if-not-give.true in
    absurd (let both : true ≡ false = sym yes ∙ no in cc)

-- startup has begun
pub returns-then-has_begun-clause-first : goal.returns-then-has_begun-clause-first
returns-then-has_begun-clause-first c = c.runs.invariant.first

pub returns-then-has_begun-clause-no_word_due : goal.returns-then-has_begun-clause-no_word_due
returns-then-has_begun-clause-no_word_due c = λ part kept wrapped bytes s. c.give.ensures.none_left.0 c.if-not-give.false

pub returns-then-has_begun-clause-takes : goal.returns-then-has_begun-clause-takes
returns-then-has_begun-clause-takes c =
    takes_given (with_buffer c.args.self.now c.dropping-read.result) (with_buffer c.runs.self c.runs.read) (with_buffer c.give.new.self c.give.new.read) c.args.piece.now c.runs.at (going_on c.stop.result c.runs.self.registers.values.stop c.stop.ensures (sym c.is_some.ensures ∙ c.if-is_some.false)) c.give.ensures.gives c.runs.invariant.takes

pub returns-then-has_begun-clause-ends : goal.returns-then-has_begun-clause-ends
returns-then-has_begun-clause-ends c = λ part kept wrapped bytes s l. inr (sym c.has_begun.ensures.value ∙ c.if-has_begun.true)

-- a turn
pub returns-then-turn-clause-no_word_due : goal.returns-then-turn-clause-no_word_due
returns-then-turn-clause-no_word_due c = λ part kept wrapped bytes s. (c.turn.ensures.used_up c.if-turn.true).no_word_due

pub returns-then-turn-clause-ends : goal.returns-then-turn-clause-ends
returns-then-turn-clause-ends c = λ part kept wrapped bytes s l. absurd (omega (arith, l, (c.turn.ensures.used_up c.if-turn.true).all))

pub returns-then-turn-clause-takes : goal.returns-then-turn-clause-takes
returns-then-turn-clause-takes c =
    takes_round (with_buffer c.args.self.now c.dropping-read.result) (with_buffer c.runs.self c.runs.read) (with_buffer c.give.new.self c.give.new.read) c.turn.new.self c.args.piece.now c.runs.at c.turn.new.at
    (going_on c.stop.result c.runs.self.registers.values.stop c.stop.ensures (sym c.is_some.ensures ∙ c.if-is_some.false)) c.give.ensures.gives c.turn.ensures.turned c.runs.invariant.takes

pub returns-then-turn-clause-first : goal.returns-then-turn-clause-first
returns-then-turn-clause-first c = λ part kept wrapped bytes s.
    let taken : List ℕ = bytes ++ take c.runs.at c.args.piece.now in
    let given : DeviceStandsFor part kept wrapped c.give.new.self taken = c.give.ensures.gives.stands part kept wrapped taken (c.runs.invariant.takes.stands part kept wrapped bytes s) in
    unbegun_on part kept wrapped c.give.new.self c.turn.new.self bytes c.args.piece.now c.runs.at c.turn.new.at c.turn.ensures.turned.forward c.turn.ensures.turned.within c.give.ensures.gives.going given
    (c.turn.ensures.turned.turn.takes part kept wrapped taken given) (c.turn.ensures.turned.turn.commands part kept wrapped taken given)
    (c.has_begun.ensures.not_begun part kept wrapped taken given c.if-has_begun.false) (c.runs.invariant.first part kept wrapped bytes s)

pub runs-smaller : goal.runs-smaller
runs-smaller c =
    let left : ℕ = length c.args.piece.now - c.runs.at in
    let going : is_some c.runs.self.registers.values.stop ≡ false = ap (λ (o : Option StopCause). is_some o) (sym c.stop.ensures) ∙ sym c.is_some.ensures ∙ c.if-is_some.false in
    fewer_left c.runs.self.registers.values.stop c.turn.new.self.registers.values.stop (calls_left c.runs.self.cutter left) (calls_left c.turn.new.self.cutter (length c.args.piece.now - c.turn.new.at)) going
    (λ none. let nearer = c.turn.ensures.goes_on c.if-turn.false none in let same = ap (λ (k : CutterState). calls_left k left) c.give.ensures.gives.cutter in omega (arith, nearer, same))

pub runs-preserved : goal.runs-preserved
runs-preserved c =
    let piece : List ℕ = c.args.piece.now in
    let at : ℕ = c.turn.new.at in
    let same : c.give.new.self.taken ≡ c.runs.self.taken = c.give.ensures.gives.taken in
    record {
      takes = takes_round (with_buffer c.args.self.now c.dropping-read.result) (with_buffer c.runs.self c.runs.read) (with_buffer c.give.new.self c.give.new.read) c.turn.new.self c.args.piece.now c.runs.at c.turn.new.at
          (going_on c.stop.result c.runs.self.registers.values.stop c.stop.ensures (sym c.is_some.ensures ∙ c.if-is_some.false)) c.give.ensures.gives c.turn.ensures.turned c.runs.invariant.takes;
      fits = omega (arith, same, c.turn.ensures.turned.taken, c.turn.ensures.turned.forward, c.turn.ensures.turned.within, c.runs.invariant.fits);
      drops = λ part kept wrapped bytes s.
          let given = c.give.ensures.gives.given part kept wrapped (bytes ++ take c.runs.at piece) (c.runs.invariant.takes.stands part kept wrapped bytes s) in
          ap (λ (b : ReadBufState). b.most) given.1 ∙ c.runs.invariant.drops part kept wrapped bytes s;
      first = λ part kept wrapped bytes s.
          let taken : List ℕ = bytes ++ take c.runs.at piece in
          let given : DeviceStandsFor part kept wrapped c.give.new.self taken = c.give.ensures.gives.stands part kept wrapped taken (c.runs.invariant.takes.stands part kept wrapped bytes s) in
          unbegun_on part kept wrapped c.give.new.self c.turn.new.self bytes piece c.runs.at at c.turn.ensures.turned.forward c.turn.ensures.turned.within c.give.ensures.gives.going given
          (c.turn.ensures.turned.turn.takes part kept wrapped taken given) (c.turn.ensures.turned.turn.commands part kept wrapped taken given)
          (c.has_begun.ensures.not_begun part kept wrapped taken given c.if-has_begun.false) (c.runs.invariant.first part kept wrapped bytes s);
    }

-- Lemmas on specs/Feeding: what a loop that feeds a device keeps.
use Rattle.std.proofs.Common.{◌≡◌, ◌++◌, ℕ, None, List, [], take, Bool, refl, ap, sym, subst, ◌∙◌, append-nil, arith}
use Rattle.std.specs.Prelude.{IsSome}
use Rattle.x7_part.specs.Part.{PartData}
use Rattle.x7_engine.specs.declared.kept.Kept.{Kept}
use Rattle.x7_engine.specs.Feeding.{DeviceAndBuffer, GivesWordsDue, GivesWordsOfFirst, TakesFirst, with_buffer}
use Rattle.x7_engine.specs.Past.{past_of}
use Rattle.x7_engine.specs.ReadBuffer.{HoldsWithinMost}
use Rattle.x7_engine.specs.Standing.{DeviceStandsFor, DeviceState, NoWordDue, reads_given}
use Rattle.x7_engine.specs.State.{first_stop_of_bytes}
use Rattle.x7_engine.specs.Turns.{TurnMoves, turn_of}
use Rattle.x7_engine.proofs.FeedLemmas.{given_on, none_before, now_given, same_stop, stands_on, words_none}
use Rattle.x7_engine.proofs.UntilReadLemmas.{room_read_on}

-- no byte was taken yet
pub takes_none : (d : DeviceState) (piece : List ℕ) → TakesFirst d d piece 0
takes_none d piece = record {
  within = omega arith;
  part = refl;
  taken = omega arith;
  fed = omega arith;
  stands = λ part kept wrapped bytes s. subst (λ (b : List ℕ). DeviceStandsFor part kept wrapped d b) (sym (append-nil bytes)) s;
  stopped = λ e. (refl, refl);
}

-- words that were due were given
pub takes_given : (x y z : DeviceAndBuffer) (piece : List ℕ) (at : ℕ) → None ≡ y.device.registers.values.stop → GivesWordsDue y z → TakesFirst x.device y.device piece at → TakesFirst x.device z.device piece at
takes_given x y z piece at going g t = record {
  within = t.within;
  part = g.part ∙ t.part;
  taken = g.taken ∙ t.taken;
  fed = omega (arith, g.fed, t.fed);
  stands = λ part kept wrapped bytes s. g.stands part kept wrapped (bytes ++ take at piece) (t.stands part kept wrapped bytes s);
  stopped = λ e. absurd (none_before x.device y.device (λ e. (t.stopped e).0) going e);
}

-- a turn was taken
takes_turn : (d e f : DeviceState) (piece : List ℕ) (from to : ℕ) → e.registers.values.stop ≡ None → TurnMoves (turn_of e f piece from to) → TakesFirst d e piece from → TakesFirst d f piece to
takes_turn d e f piece from to going m t = record {
  within = m.within;
  part = m.turn.part ∙ t.part;
  taken = omega (arith, m.taken, m.forward, t.taken);
  fed = omega (arith, m.fed, m.forward, t.fed);
  stands = λ part kept wrapped bytes s. stands_on part kept wrapped e f bytes piece from to m.forward (m.turn.takes part kept wrapped) (t.stands part kept wrapped bytes s);
  stopped = λ s. absurd (none_before d e (λ s. (t.stopped s).0) (sym going) s);
}

-- the buffer before the first byte
pub gives_none : (x : DeviceAndBuffer) (piece : List ℕ) → HoldsWithinMost x.buffer.most x.buffer.words → GivesWordsOfFirst x x piece 0
gives_none x piece few = record {
  words = λ part kept wrapped bytes s. ([], words_none x.buffer, ap (reads_given part kept x.device) (append-nil bytes) ∙ sym (append-nil (reads_given part kept x.device bytes)));
  within_most = few;
  room = λ part kept wrapped bytes s k l. absurd (omega (arith, l));
  stopped = λ e. refl;
}

-- the buffer after the words that were due
pub gives_due : (x y z : DeviceAndBuffer) (piece : List ℕ) (at : ℕ) → None ≡ y.device.registers.values.stop → GivesWordsDue y z → TakesFirst x.device y.device piece at → GivesWordsOfFirst x y piece at → GivesWordsOfFirst x z piece at
gives_due x y z piece at going g t w = record {
  words = λ part kept wrapped bytes s.
      now_given (past_of part kept wrapped bytes) x y z (past_of part kept wrapped (bytes ++ take at piece)) (g.given part kept wrapped (bytes ++ take at piece) (t.stands part kept wrapped bytes s)) (w.words part kept wrapped bytes s);
  within_most = g.within_most;
  room = w.room;
  stopped = λ e. absurd (none_before x.device y.device (λ e. (t.stopped e).0) going e);
}

-- the buffer after a turn, which gives no word
gives_turn : (x y : DeviceAndBuffer) (f : DeviceState) (piece : List ℕ) (from to : ℕ) → y.device.registers.values.stop ≡ None → NoWordDue y.device → TurnMoves (turn_of y.device f piece from to) → TakesFirst x.device y.device piece from
    → GivesWordsOfFirst x y piece from → GivesWordsOfFirst x (with_buffer f y.buffer) piece to
gives_turn x y f piece from to going due m t w = record {
  words = λ part kept wrapped bytes s.
      let known = w.words part kept wrapped bytes s in
      (known.0, known.1, given_on part kept wrapped y.device f bytes piece from to m.forward (m.turn.silent part kept wrapped) (t.stands part kept wrapped bytes s) ∙ known.2);
  within_most = w.within_most;
  room = λ part kept wrapped bytes s.
      let stands : DeviceStandsFor part kept wrapped y.device (bytes ++ take from piece) = t.stands part kept wrapped bytes s in
      room_read_on part kept wrapped y.device f x.buffer y.buffer bytes piece (reads_given part kept x.device bytes) from to m.forward m.within going due stands
      (m.turn.takes part kept wrapped (bytes ++ take from piece) stands) (m.turn.commands part kept wrapped (bytes ++ take from piece) stands) w.within_most (w.words part kept wrapped bytes s) (w.room part kept wrapped bytes s);
  stopped = λ e. absurd (none_before x.device y.device (λ e. (t.stopped e).0) (sym going) e);
}

-- words that were due were given, and then a turn was taken
pub takes_round : (x y z : DeviceAndBuffer) (f : DeviceState) (piece : List ℕ) (from to : ℕ) → None ≡ y.device.registers.values.stop → GivesWordsDue y z → TurnMoves (turn_of z.device f piece from to) → TakesFirst x.device y.device piece from
    → TakesFirst x.device f piece to
takes_round x y z f piece from to going g m t = takes_turn x.device z.device f piece from to g.going m (takes_given x y z piece from going g t)

-- the buffer after the words that were due and then a turn
pub gives_round : (x y z : DeviceAndBuffer) (f : DeviceState) (piece : List ℕ) (from to : ℕ) → None ≡ y.device.registers.values.stop → GivesWordsDue y z → NoWordDue z.device → TurnMoves (turn_of z.device f piece from to)
    → TakesFirst x.device y.device piece from → GivesWordsOfFirst x y piece from → GivesWordsOfFirst x (with_buffer f z.buffer) piece to
gives_round x y z f piece from to going g due m t w = gives_turn x z f piece from to g.going due m (takes_given x y z piece from going g t) (gives_due x y z piece from going g t w)

-- ---- named facts for the crates above

-- after a stop nothing is taken
pub takes_nothing : (part : PartData) (kept : Kept) (wrapped : Bool) (old new : DeviceState) (piece bytes : List ℕ) (count : ℕ) → TakesFirst old new piece count → DeviceStandsFor part kept wrapped old bytes
    → IsSome (first_stop_of_bytes part kept bytes) → (new ≡ old) × (count ≡ 0)
takes_nothing part kept wrapped old new piece bytes count t s e = t.stopped (sym (same_stop old (past_of part kept wrapped bytes) s) ∙ e)

use Rattle.std.proofs.Common.{◌≡◌, ◌<◌, ◌≤◌, ◌⊎◌, ℕ, List, length, take, inl, inr, subst, arith}
use Rattle.std.proofs.lemmas.Bool.Decides.{nat_tests}
use Rattle.std.proofs.lemmas.List.{length-take-le}
use Rattle.x7_engine.specs.Standing.{DeviceState}
use Rattle.x7_engine.specs.Turns.{TurnTakes, TurnMoves, turn_of}
use Rattle.x7_engine.proofs.UntilLemmas.{in_slice, turn_first}
use Rattle.x7_engine.proofs.device.Device.turn_until_started.Goals as goal
use Rattle.x7_packets.proofs.StreamLemmas.{one_sync}

-- a turn over the first bytes of a piece is one over the piece
slice_turned : (old new : DeviceState) (piece : List ℕ) (end from to : ℕ) → end ≤ length piece → TurnMoves (turn_of old new (take end piece) from to) → TurnMoves (turn_of old new piece from to)
slice_turned old new piece end from to within t = record {
  forward = t.forward;
  within = omega (arith, t.within, length-take-le end piece within, within);
  taken = t.taken;
  fed = t.fed;
  turn = subst (TurnTakes old new) (in_slice piece end from to within t.forward t.within) t.turn;
}

second : {P Q : Type 0} → P ⊎ Q → (P → ⊥) → Q
second (inl p) none = absurd (none p)
second (inr q) none = q

pub returns-then-turn-clause-took : goal.returns-then-turn-clause-took
returns-then-turn-clause-took c =
    let used = c.turn.ensures.used_up c.if-turn.true in
    let size : length (take c.turn_end-end.result c.args.piece.now) ≡ c.turn_end-end.result = length-take-le c.turn_end-end.result c.args.piece.now c.turn_end-end.ensures.within in
    record {
      turned = slice_turned c.args.self.now c.turn.new.self c.args.piece.now c.turn_end-end.result c.args.at.now c.turn.new.at c.turn_end-end.ensures.within c.turn.ensures.turned;
      used_up = λ e. record { all = let all : c.turn_end-end.result ≡ length c.args.piece.now = grind (arith, nat_tests, e) in omega (arith, all, size, used.all); going = used.going; no_word_due = used.no_word_due };
      goes_on = λ e f. (
          let more : c.turn_end-end.result ≡ length c.args.piece.now → ⊥ = λ all. absurd (grind (arith, nat_tests, e, all)) in
          let further : c.args.at.now < c.turn_end-end.result = second c.turn_end-end.ensures.ends_or_advances more in
          omega (arith, further, size, used.all, c.turn_end-end.ensures.within, one_sync c.turn.new.self.cutter.mode));
    }

pub returns-then-turn-clause-first : goal.returns-then-turn-clause-first
returns-then-turn-clause-first c = λ part kept wrapped bytes s not.
    turn_first part kept wrapped c.args.self.now c.turn.new.self bytes c.args.piece.now c.turn_end-end.result c.args.at.now c.turn.new.at c.turn_end-end.ensures.within c.turn.ensures.turned.forward c.turn.ensures.turned.within c.requires.going
    s (c.turn.ensures.turned.turn.takes part kept wrapped bytes s) (c.turn.ensures.turned.turn.commands part kept wrapped bytes s) (c.turn_end-end.ensures.soonest part kept wrapped bytes s) not

pub returns-clause-took : goal.returns-clause-took
returns-clause-took c = record {
  turned = slice_turned c.args.self.now c.turn.new.self c.args.piece.now c.turn_end-end.result c.args.at.now c.turn.new.at c.turn_end-end.ensures.within c.turn.ensures.turned;
  used_up = λ e. absurd cc;
  goes_on = λ e f. (
      let size : length (take c.turn_end-end.result c.args.piece.now) ≡ c.turn_end-end.result = length-take-le c.turn_end-end.result c.args.piece.now c.turn_end-end.ensures.within in
      let nearer = c.turn.ensures.goes_on c.if-turn.false f in
      omega (arith, nearer, size, c.turn_end-end.ensures.within, c.turn.ensures.turned.within, c.turn.ensures.turned.forward));
}

pub returns-clause-first : goal.returns-clause-first
returns-clause-first c = λ part kept wrapped bytes s not.
    turn_first part kept wrapped c.args.self.now c.turn.new.self bytes c.args.piece.now c.turn_end-end.result c.args.at.now c.turn.new.at c.turn_end-end.ensures.within c.turn.ensures.turned.forward c.turn.ensures.turned.within c.requires.going
    s (c.turn.ensures.turned.turn.takes part kept wrapped bytes s) (c.turn.ensures.turned.turn.commands part kept wrapped bytes s) (c.turn_end-end.ensures.soonest part kept wrapped bytes s) not

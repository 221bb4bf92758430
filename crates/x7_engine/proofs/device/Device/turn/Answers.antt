use Rattle.std.proofs.Common.{ℕ, subst, arith}
use Rattle.x7_engine.specs.Standing.{DeviceState}
use Rattle.x7_engine.specs.Turns.{TurnAnswers, turn_of}
use Rattle.x7_engine.proofs.device.Device.turn.Goals as goal
use Rattle.x7_packets.proofs.StreamLemmas.{one_sync}

pub returns-then-take_write : goal.returns-then-take_write
returns-then-take_write c = record {
  turned = c.take_write.ensures.turned c.if-take_write.true;
  used_up = λ e. absurd cc;
  goes_on = λ e f. (
      let turned = c.take_write.ensures.turned c.if-take_write.true in
      omega (arith, c.take_write.ensures.eight_bytes c.if-take_write.true, turned.within, one_sync c.take_write.new.self.cutter.mode));
}

-- where there is no write, the next run is taken of the device as it was
pub returns : goal.returns
returns c =
    let same = c.take_write.ensures.unchanged c.if-take_write.false in
    subst (λ (at : ℕ). TurnAnswers (turn_of c.args.self.now c.take_next.new.self c.args.piece.now at c.take_next.new.at) c.take_next.result) same.1
    (subst (λ (d : DeviceState). TurnAnswers (turn_of d c.take_next.new.self c.args.piece.now c.take_write.new.at c.take_next.new.at) c.take_next.result) same.0 c.take_next.ensures)

use Rattle.std.proofs.Common.{◌<◌, ◌+◌, ℕ, List, [], length, arith, ap, ◌∙◌}
use Rattle.arrayvec.specs.ArrayVec.{ArrayVec}
use Rattle.x7_jtag.specs.Tap.{QueueState}
use Rattle.x7_jtag.proofs.StandingLemmas.{room_more, turn_more, turns_end}
use Rattle.x7_jtag.proofs.queue.Queue.give_held.Goals as goal

pub loop-rest-preserved : goal.loop-rest-preserved
loop-rest-preserved c =
    let some : 0 < length c.loop-rest.rest.now = grind (arith, c.is_empty.ensures, c.loop-rest-test.true) in
    record {
      turns = λ part m s. turn_more part _ c.loop-rest.self c.take.new.self c.args.device.now c.loop-rest.device c.take.new.device c.as_slice-rest.result.now c.loop-rest.rest.now some (c.loop-rest.invariant.turns part) (c.take.ensures.queue part) m s;
      room = room_more c.loop-rest.rest.now (length c.take.new.self.held) (length c.loop-rest.self.held) 64 some c.take.ensures.held c.loop-rest.invariant.room;
      taken = room_more c.loop-rest.rest.now c.take.new.device.taken c.loop-rest.device.taken (c.args.device.now.taken + 64) some c.take.ensures.taken c.loop-rest.invariant.taken;
    }

pub returns : goal.returns
returns c = record {
  queue = λ part q s.
      turns_end part c.args.self.now _ c.loop-rest.self c.args.device.now c.loop-rest.device q.given q.held c.as_slice-rest.result.now c.loop-rest.rest.now q.out s
      (ap (λ (h : List ℕ). record { held = h; word = c.self.inside.word; bits_left = c.self.inside.bits_left }) (ap (λ (v : ArrayVec ℕ). v.items) c.replace-held.ensures.after ∙ c.new.ensures) ∙ ap (λ (q : QueueState). record q { held = [] }) c.self.view_is)
      (c.as_slice-rest.ensures.value ∙ ap (λ (v : ArrayVec ℕ). v.items) c.replace-held.ensures.value ∙ ap (λ (q : QueueState). q.held) c.self.view_is) (grind (arith, c.loop-rest-test.false, c.loop-rest-test.ensures)) (c.loop-rest.invariant.turns part);
}

use Rattle.std.proofs.Common.{ℕ, List, arith, append-nil, subst}
use Rattle.x7_jtag.specs.Queue.{queue_of}
use Rattle.x7_jtag.specs.Tap.{QueueStandsFor}
use Rattle.x7_jtag.proofs.queue.Queue.refill.Goals as goal

pub returns : goal.returns
returns c = record {
  queue = λ part q h.
      c.give_held.ensures.queue part q
      (subst (λ (g : List ℕ). QueueStandsFor part c.feed.new.self c.feed.new.device (queue_of g q.held q.out)) (append-nil q.given) (c.feed.ensures.queue part q h (λ l. absurd (omega (arith, l)))));
}

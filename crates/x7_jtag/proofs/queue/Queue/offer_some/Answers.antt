use Rattle.std.proofs.Common.{arith}
use Rattle.x7_jtag.proofs.GiveLemmas.{offers_one}
use Rattle.x7_jtag.proofs.queue.Queue.offer_some.Goals as goal

pub returns-clause-queue : goal.returns-clause-queue
returns-clause-queue c = λ part q s.
    offers_one part c.give-count.new.self c.offer.new.self c.give-count.new.device c.offer.new.device q c.args.bytes.now c.give-count.result (omega (arith, c.if-count-gt0.false)) c.requires.not_empty (c.give-count.ensures.queue part q s) (c.offer.ensures.queue part)

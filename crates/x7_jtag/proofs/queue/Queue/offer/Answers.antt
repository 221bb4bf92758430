use Rattle.x7_jtag.specs.Port.{words_read_out}
use Rattle.x7_jtag.specs.Queue.{queue_with_room}
use Rattle.x7_jtag.proofs.queue.Queue.offer.Goals as goal

pub returns-clause-queue : goal.returns-clause-queue
returns-clause-queue c = λ part q s. c.take.ensures.queue part (queue_with_room (words_read_out part) q) (c.make_room.ensures.queue part q s)

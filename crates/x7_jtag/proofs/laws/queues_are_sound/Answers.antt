use Rattle.x7_jtag.proofs.QueueLemmas.{port_sound}
use Rattle.x7_jtag.proofs.laws.queues_are_sound.Goals as goal

pub returns : goal.returns
returns c = port_sound

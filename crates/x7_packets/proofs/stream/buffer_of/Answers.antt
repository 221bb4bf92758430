use Rattle.x7_packets.proofs.StreamLemmas.{begins}
use Rattle.x7_packets.proofs.stream.buffer_of.Goals as goal

pub returns-clause-items : goal.returns-clause-items
returns-clause-items c = begins c.args.first.now c.in_ok-buffer.buffer.items _ c.resize.new.self.items 65536 c.in_ok-buffer.ensures.items c.in_ok-resize.ensures.items c.requires

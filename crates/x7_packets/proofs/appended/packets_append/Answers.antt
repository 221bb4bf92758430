use Rattle.x7_packets.proofs.PacketLemmas.{packet_more, whole_after}
use Rattle.x7_packets.proofs.appended.packets_append.Goals as goal

pub returns-clause-packets : goal.returns-clause-packets
returns-clause-packets c = packet_more

pub returns-clause-whole : goal.returns-clause-whole
returns-clause-whole c = whole_after

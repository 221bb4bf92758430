use Rattle.std.proofs.Common.{None, sym, ◌∙◌}
use Rattle.x7_packets.proofs.PacketLemmas.{one_list}
use Rattle.x7_packets.proofs.laws.one_list_of_packets.Goals as goal

pub returns : goal.returns
returns c = λ ws ps qs a b. one_list None ps qs a.each b.each (sym a.joined ∙ b.joined)

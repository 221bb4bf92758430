use Rattle.std.proofs.Common.{refl}
use Rattle.x7_packets.proofs.CutLemmas.{fresh}
use Rattle.x7_packets.proofs.cutter.Cutter.new.Goals as goal

pub returns : goal.returns
returns c = fresh _ refl c.new.ensures c.new-2.ensures

use Rattle.x7_packets.proofs.UniqueLemmas.{one_reading}
use Rattle.x7_packets.proofs.laws.one_reading.Goals as goal

pub returns : goal.returns
returns c = one_reading

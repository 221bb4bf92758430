use Rattle.x7_packets.proofs.FitLemmas.{accesses_fit}
use Rattle.x7_packets.proofs.laws.accesses_fit.Goals as goal

pub returns : goal.returns
returns c = accesses_fit

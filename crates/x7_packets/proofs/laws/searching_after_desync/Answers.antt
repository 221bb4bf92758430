use Rattle.x7_packets.proofs.EndedLemmas.{has_ended}
use Rattle.x7_packets.proofs.laws.searching_after_desync.Goals as goal

pub returns : goal.returns
returns c = has_ended

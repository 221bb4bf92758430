use Rattle.x7_packets.proofs.HistoryLemmas.{words_after}
use Rattle.x7_packets.proofs.laws.words_after.Goals as goal

pub returns : goal.returns
returns c = words_after

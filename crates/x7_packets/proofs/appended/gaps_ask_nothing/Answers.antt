use Rattle.x7_packets.proofs.AppendedLemmas.{nothing_read}
use Rattle.x7_packets.proofs.SeamLemmas.{none_without}
use Rattle.x7_packets.proofs.appended.gaps_ask_nothing.Goals as goal

pub returns-clause-gap : goal.returns-clause-gap
returns-clause-gap c = λ bytes f n. (nothing_read bytes f n).0

pub returns-clause-nothing : goal.returns-clause-nothing
returns-clause-nothing c = λ bytes f n. (nothing_read bytes f n).1

pub returns-clause-lacks : goal.returns-clause-lacks
returns-clause-lacks c = none_without

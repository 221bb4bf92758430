use Rattle.x7_packets.proofs.ByHandLemmas.{one_session, packets_are, packets_are_found}
use Rattle.x7_packets.proofs.laws.packets_are_found.Goals as goal

pub returns-clause-found : goal.returns-clause-found
returns-clause-found c = packets_are_found

pub returns-clause-unique : goal.returns-clause-unique
returns-clause-unique c = λ ws ps a. (one_session ws ps a, packets_are ws ps a)

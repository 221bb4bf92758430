use Rattle.x7_packets.proofs.ByHandLemmas.{reading_is, reading_is_found}
use Rattle.x7_packets.proofs.laws.reading_is_found.Goals as goal

pub returns-clause-found : goal.returns-clause-found
returns-clause-found c = reading_is_found

pub returns-clause-unique : goal.returns-clause-unique
returns-clause-unique c = reading_is

use Rattle.x7_mcs.proofs.LawLemmas.{records_apart}
use Rattle.x7_mcs.proofs.laws.records_are_apart.Goals as goal

pub returns : goal.returns
returns c = records_apart

use Rattle.x7_mcs.proofs.LawLemmas.{no_memory}
use Rattle.x7_mcs.proofs.laws.want_of_memory_is_no_fault.Goals as goal

pub returns : goal.returns
returns c = no_memory

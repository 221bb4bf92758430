use Rattle.x7_memory.proofs.MapLemmas.{override_twice, override_disjoint, override_again, override_same, override_one}
use Rattle.x7_memory.proofs.laws.maps_override_by_address.Goals as goal

pub returns-clause-twice : goal.returns-clause-twice
returns-clause-twice c = override_twice

pub returns-clause-disjoint : goal.returns-clause-disjoint
returns-clause-disjoint c = override_disjoint

pub returns-clause-again : goal.returns-clause-again
returns-clause-again c = override_again

pub returns-clause-same : goal.returns-clause-same
returns-clause-same c = override_same

pub returns-clause-one_frame : goal.returns-clause-one_frame
returns-clause-one_frame c = override_one

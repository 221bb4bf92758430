use Rattle.x7_update.proofs.WholeLemmas.{honest_never_differs, updated_becomes}
use Rattle.x7_update.proofs.call_laws.honest_flashes_are_updated.Goals as goal

pub returns-clause-becomes : goal.returns-clause-becomes
returns-clause-becomes c = λ stream held old new g. updated_becomes stream g.bytes old new g.updated held.before held.now g.size g.gave

pub returns-clause-never_differs : goal.returns-clause-never_differs
returns-clause-never_differs c = λ stream held old new place wrote read g. honest_never_differs stream g.bytes old new place wrote read g.stopped held.before held.now g.size g.gave

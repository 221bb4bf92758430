use Rattle.x7_engine.proofs.BeginsLemmas.{begins_by, begins_there}
use Rattle.x7_engine.proofs.laws.startup_begins.Goals as goal

pub returns-clause-begun : goal.returns-clause-begun
returns-clause-begun c = begins_by

pub returns-clause-found : goal.returns-clause-found
returns-clause-found c = begins_there

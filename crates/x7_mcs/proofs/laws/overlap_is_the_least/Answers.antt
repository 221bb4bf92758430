use Rattle.x7_mcs.proofs.OutcomeLemmas.{least_is, none_is}
use Rattle.x7_mcs.proofs.laws.overlap_is_the_least.Goals as goal

pub returns-clause-found : goal.returns-clause-found
returns-clause-found c = least_is

pub returns-clause-none_covered : goal.returns-clause-none_covered
returns-clause-none_covered c = none_is

use Rattle.x7_flow.proofs.WordLemmas.{base_is, given_is, run_is, source_is}
use Rattle.x7_flow.proofs.laws.flows_go_by_accesses.Goals as goal

pub returns-clause-base : goal.returns-clause-base
returns-clause-base c = base_is

pub returns-clause-run : goal.returns-clause-run
returns-clause-run c = run_is

pub returns-clause-given : goal.returns-clause-given
returns-clause-given c = given_is

pub returns-clause-source : goal.returns-clause-source
returns-clause-source c = source_is

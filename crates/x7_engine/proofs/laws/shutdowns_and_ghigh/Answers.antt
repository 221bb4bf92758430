use Rattle.x7_engine.proofs.SequenceLemmas.{ghigh_is, pending_is, taking_is}
use Rattle.x7_engine.proofs.laws.shutdowns_and_ghigh.Goals as goal

pub returns-clause-pending : goal.returns-clause-pending
returns-clause-pending c = pending_is

pub returns-clause-taken : goal.returns-clause-taken
returns-clause-taken c = taking_is

pub returns-clause-ghigh : goal.returns-clause-ghigh
returns-clause-ghigh c = ghigh_is

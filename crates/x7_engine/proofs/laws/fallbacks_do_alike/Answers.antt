use Rattle.x7_engine.proofs.FallbackLemmas.{kept_memory, kept_state, kept_stop}
use Rattle.x7_engine.proofs.laws.fallbacks_do_alike.Goals as goal

pub returns-clause-stop : goal.returns-clause-stop
returns-clause-stop c = kept_stop

pub returns-clause-memory : goal.returns-clause-memory
returns-clause-memory c = kept_memory

pub returns-clause-registers : goal.returns-clause-registers
returns-clause-registers c = kept_state

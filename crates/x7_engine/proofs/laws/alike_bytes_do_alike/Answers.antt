use Rattle.x7_engine.proofs.AlikeLemmas.{alike_memory, alike_state, alike_stop}
use Rattle.x7_engine.proofs.laws.alike_bytes_do_alike.Goals as goal

pub returns-clause-stop : goal.returns-clause-stop
returns-clause-stop c = alike_stop

pub returns-clause-memory : goal.returns-clause-memory
returns-clause-memory c = alike_memory

pub returns-clause-state : goal.returns-clause-state
returns-clause-state c = alike_state

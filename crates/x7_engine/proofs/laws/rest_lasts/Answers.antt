use Rattle.x7_engine.proofs.RestLemmas.{history_on, rest_new, rest_on}
use Rattle.x7_engine.proofs.laws.rest_lasts.Goals as goal

pub returns-clause-stays : goal.returns-clause-stays
returns-clause-stays c = rest_on

pub returns-clause-same_history : goal.returns-clause-same_history
returns-clause-same_history c = history_on

pub returns-clause-new_device : goal.returns-clause-new_device
returns-clause-new_device c = rest_new

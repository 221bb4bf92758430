use Rattle.x7_engine.proofs.FirstStopLemmas.{first_is_stop, no_stop_none, stop_is_first}
use Rattle.x7_engine.proofs.laws.stops_are_first.Goals as goal

pub returns-clause-first : goal.returns-clause-first
returns-clause-first c = stop_is_first

pub returns-clause-found : goal.returns-clause-found
returns-clause-found c = first_is_stop

pub returns-clause-no_stop : goal.returns-clause-no_stop
returns-clause-no_stop c = no_stop_none

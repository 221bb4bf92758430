use Rattle.x7_flow.proofs.ManyLemmas.{flow_twice, memory_after_load_alone, pairs_twice, settings_twice}
use Rattle.x7_flow.proofs.AlikeLemmas.{loaded_alike}
use Rattle.x7_flow.proofs.laws.later_histories_join.Goals as goal

pub returns-clause-settings : goal.returns-clause-settings
returns-clause-settings c = settings_twice

pub returns-clause-flow : goal.returns-clause-flow
returns-clause-flow c = λ x. flow_twice x.part x.settings x.flow

pub returns-clause-pairs : goal.returns-clause-pairs
returns-clause-pairs c = λ x. pairs_twice x.part x.settings x.flow

pub returns-clause-without_source : goal.returns-clause-without_source
returns-clause-without_source c = memory_after_load_alone

pub returns-clause-same_but_for_mask : goal.returns-clause-same_but_for_mask
returns-clause-same_but_for_mask c = loaded_alike

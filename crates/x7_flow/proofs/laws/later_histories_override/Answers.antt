use Rattle.x7_flow.proofs.SettingsLemmas.{settings_joined}
use Rattle.x7_flow.proofs.FlowLemmas.{flow_joined, memory_joined, memory_after_load}
use Rattle.x7_flow.proofs.laws.later_histories_override.Goals as goal

pub returns-clause-settings : goal.returns-clause-settings
returns-clause-settings c = settings_joined

pub returns-clause-flow : goal.returns-clause-flow
returns-clause-flow c = flow_joined

pub returns-clause-memory : goal.returns-clause-memory
returns-clause-memory c = memory_joined

pub returns-clause-loaded : goal.returns-clause-loaded
returns-clause-loaded c = memory_after_load

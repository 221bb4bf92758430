use Rattle.x7_flow.proofs.ManyLemmas.{words_flow, words_land, words_pairs, words_settings}
use Rattle.x7_flow.proofs.laws.words_at_once_land.Goals as goal

pub returns-clause-settings : goal.returns-clause-settings
returns-clause-settings c = words_settings

pub returns-clause-flow : goal.returns-clause-flow
returns-clause-flow c = words_flow

pub returns-clause-lands : goal.returns-clause-lands
returns-clause-lands c = words_land

pub returns-clause-pairs : goal.returns-clause-pairs
returns-clause-pairs c = λ x n ws later b. words_pairs x.part x.settings x.flow n ws later b.takes b.empty

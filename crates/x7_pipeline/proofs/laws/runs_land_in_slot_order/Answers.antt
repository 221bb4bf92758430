use Rattle.x7_pipeline.proofs.LawLemmas.{cut, landed_in_order, landed_empty, landed_nowhere, lands_none, put_twice, lands_more, lands_over}
use Rattle.x7_pipeline.proofs.laws.runs_land_in_slot_order.Goals as goal

pub returns-clause-frames : goal.returns-clause-frames
returns-clause-frames c = cut

pub returns-clause-order : goal.returns-clause-order
returns-clause-order c = landed_in_order

pub returns-clause-no_run_writes_nothing : goal.returns-clause-no_run_writes_nothing
returns-clause-no_run_writes_nothing c = landed_empty

pub returns-clause-no_base_writes_nothing : goal.returns-clause-no_base_writes_nothing
returns-clause-no_base_writes_nothing c = landed_nowhere

pub returns-clause-no_word_lands_nothing : goal.returns-clause-no_word_lands_nothing
returns-clause-no_word_lands_nothing c = lands_none

pub returns-clause-puts_join : goal.returns-clause-puts_join
returns-clause-puts_join c = put_twice

pub returns-clause-words_join : goal.returns-clause-words_join
returns-clause-words_join c = lands_more

pub returns-clause-longer_run_over : goal.returns-clause-longer_run_over
returns-clause-longer_run_over c = lands_over

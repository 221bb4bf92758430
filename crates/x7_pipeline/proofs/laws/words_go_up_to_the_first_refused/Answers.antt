use Rattle.x7_pipeline.proofs.WordLemmas.{all_written, some_refused}
use Rattle.x7_pipeline.proofs.laws.words_go_up_to_the_first_refused.Goals as goal

pub returns-clause-whole : goal.returns-clause-whole
returns-clause-whole c = all_written

pub returns-clause-refused : goal.returns-clause-refused
returns-clause-refused c = some_refused

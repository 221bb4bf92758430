use Rattle.x7_flow.proofs.StandingLemmas.{one_more, one_state_of, read_begins}
use Rattle.x7_flow.proofs.laws.frames_stand_for_one_more.Goals as goal

pub returns-clause-one_more : goal.returns-clause-one_more
returns-clause-one_more c = λ part old new e h did are. one_more part old new e h did are

pub returns-clause-read : goal.returns-clause-read
returns-clause-read c = λ part f e h count r. (read_begins part f.pipeline f.memory e h count r.reads r.address r.stands).0

pub returns-clause-words_due : goal.returns-clause-words_due
returns-clause-words_due c = λ part f e h count r. (read_begins part f.pipeline f.memory e h count r.reads r.address r.stands).1

pub returns-clause-equal : goal.returns-clause-equal
returns-clause-equal c = one_state_of

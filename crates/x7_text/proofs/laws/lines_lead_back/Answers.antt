use Rattle.x7_text.proofs.SplitLemmas.{joined_split, split_ended, split_free}
use Rattle.x7_text.proofs.laws.lines_lead_back.Goals as goal

pub returns-clause-joined : goal.returns-clause-joined
returns-clause-joined c = joined_split

pub returns-clause-no_ends : goal.returns-clause-no_ends
returns-clause-no_ends c = split_free

pub returns-clause-ended : goal.returns-clause-ended
returns-clause-ended c = split_ended

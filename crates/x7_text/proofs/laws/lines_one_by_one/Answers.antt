use Rattle.x7_text.proofs.LineLemmas.{bytes_closed, data_closed}
use Rattle.x7_text.proofs.laws.lines_one_by_one.Goals as goal

pub returns-clause-words : goal.returns-clause-words
returns-clause-words c = data_closed

pub returns-clause-bytes : goal.returns-clause-bytes
returns-clause-bytes c = bytes_closed

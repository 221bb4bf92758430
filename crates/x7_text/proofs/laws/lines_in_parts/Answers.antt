use Rattle.x7_text.proofs.LineLemmas.{open_text_append, in_line_after_append}
use Rattle.x7_text.proofs.laws.lines_in_parts.Goals as goal

pub returns-clause-text : goal.returns-clause-text
returns-clause-text c = open_text_append

pub returns-clause-count : goal.returns-clause-count
returns-clause-count c = in_line_after_append

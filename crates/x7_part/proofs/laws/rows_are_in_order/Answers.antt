use Rattle.x7_part.proofs.FileRowLemmas.{part_rises, text_is, text_rows}
use Rattle.x7_part.proofs.SortLemmas.{ordered_same, ordered_sorted}
use Rattle.x7_part.proofs.laws.rows_are_in_order.Goals as goal

pub returns-clause-same_rows_as_file : goal.returns-clause-same_rows_as_file
returns-clause-same_rows_as_file c = text_rows

pub returns-clause-part : goal.returns-clause-part
returns-clause-part c = text_is

pub returns-clause-rise : goal.returns-clause-rise
returns-clause-rise c = part_rises

pub returns-clause-same_rows : goal.returns-clause-same_rows
returns-clause-same_rows c = ordered_same

pub returns-clause-sorted : goal.returns-clause-sorted
returns-clause-sorted c = ordered_sorted

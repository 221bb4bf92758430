use Rattle.std.proofs.Common.{[]}
use Rattle.x7_text.proofs.RowLemmas.{rows_full, rows_joined}
use Rattle.x7_text.proofs.laws.rows_are_the_elements.Goals as goal

pub returns-clause-joined : goal.returns-clause-joined
returns-clause-joined c = λ n xs. rows_joined n [] xs

pub returns-clause-full : goal.returns-clause-full
returns-clause-full c = λ n xs h. rows_full n [] xs h

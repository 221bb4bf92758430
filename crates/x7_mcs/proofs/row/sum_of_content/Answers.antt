use Rattle.std.proofs.Common.{◌∙◌, arith}
use Rattle.x7_mcs.proofs.RowLemmas.{folded}
use Rattle.x7_mcs.proofs.row.sum_of_content.Goals as goal

pub returns : goal.returns
returns c = folded c.args.content.now 0 (omega arith) ∙ omega arith

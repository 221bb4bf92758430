use Rattle.std.proofs.Common.{arith}
use Rattle.x7_part.proofs.ColumnLemmas.{last_rank, no_address}
use Rattle.x7_part.proofs.column.frame_count.Goals as goal

pub overflow_add-result : goal.overflow_add-result
overflow_add-result c =
    let e = last_rank c.args.columns.now c.in-Some.last.now c.requires.table c.in-Some.ensures.value in record { fits = omega arith }

pub returns-in-Some : goal.returns-in-Some
returns-in-Some c = last_rank c.args.columns.now c.in-Some.last.now c.requires.table c.in-Some.ensures.value

pub returns-in-None : goal.returns-in-None
returns-in-None c = no_address c.args.columns.now c.in-None.ensures.value

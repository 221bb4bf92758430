use Rattle.std.proofs.Common.{arith}
use Rattle.x7_part.proofs.ColumnLemmas.{rank_found, nothing}
use Rattle.x7_part.proofs.column.rank_of.Goals as goal

pub overflow_add-result : goal.overflow_add-result
overflow_add-result c =
    let at = c.in_ok-index.ensures.found in
    let f = rank_found c.args.columns.now c.requires.table c.in_ok-index.index c.args.far nothing at.0 (at.1 nothing).0 (at.1 nothing).1 in
    record { fits = omega arith }

pub returns-clause-found : goal.returns-clause-found
returns-clause-found c =
    let at = c.in_ok-index.ensures.found in
    rank_found c.args.columns.now c.requires.table c.in_ok-index.index c.args.far nothing at.0 (at.1 nothing).0 (at.1 nothing).1

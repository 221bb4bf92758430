use Rattle.std.proofs.Common.{arith}
use Rattle.x7_part.proofs.ColumnLemmas.{slot_rank, nothing}
use Rattle.x7_part.proofs.column.rank_in.Goals as goal

pub overflow_add-result : goal.overflow_add-result
overflow_add-result c =
    let r = slot_rank c.args.columns.now c.requires.table c.args.index c.args.slot_number nothing (omega arith) (omega arith) (omega (arith, c.if-offset-from.true, c.from.ensures)) in
    let here = r.0 in let few = c.requires.addresses in record { fits = omega (arith, here, few) }

pub returns-then-offset-from-clause-found : goal.returns-then-offset-from-clause-found
returns-then-offset-from-clause-found c =
    slot_rank c.args.columns.now c.requires.table c.args.index c.args.slot_number nothing (omega arith) (omega arith) (omega (arith, c.if-offset-from.true, c.from.ensures))

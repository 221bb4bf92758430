use Rattle.std.proofs.Common.{arith}
use Rattle.x7_part.proofs.ColumnLemmas.{last_slot, no_place}
use Rattle.x7_part.proofs.column.slot_count.Goals as goal

pub overflow_add-result : goal.overflow_add-result
overflow_add-result c =
    let e = last_slot c.args.columns.now c.in-Some.last.now c.requires.table c.in-Some.ensures.value in record { fits = omega arith }

pub overflow_add-result-in-Some : goal.overflow_add-result-in-Some
overflow_add-result-in-Some c =
    let e = last_slot c.args.columns.now c.in-Some.last.now c.requires.table c.in-Some.ensures.value in record { fits = omega arith }

pub returns-in-Some : goal.returns-in-Some
returns-in-Some c = rw (c.from.ensures, c.from-in-Some.ensures) (last_slot c.args.columns.now c.in-Some.last.now c.requires.table c.in-Some.ensures.value)

pub returns-in-None : goal.returns-in-None
returns-in-None c = no_place c.args.columns.now c.in-None.ensures.value

use Rattle.std.proofs.Common.{arith}
use Rattle.x7_part.proofs.ColumnLemmas.{slot_after_is, slots_from_is, slot_ends, nothing}
use Rattle.x7_part.proofs.column.place_of.Goals as goal

pub overflow_add-result : goal.overflow_add-result
overflow_add-result c =
    let at = c.in-Some.ensures.found in
    let low = (at.1 nothing).0 in let high = (at.1 nothing).1 in
    let e = slot_ends 0 0 0 c.args.columns.now c.requires.columns.table c.in-Some.index nothing at.0 in
    record { fits = omega arith }

pub returns-clause-within : goal.returns-clause-within
returns-clause-within c =
    let at = c.in-Some.ensures.found in
    let low = (at.1 nothing).0 in let high = (at.1 nothing).1 in
    let e = slot_ends 0 0 0 c.args.columns.now c.requires.columns.table c.in-Some.index nothing at.0 in
    omega arith

pub returns-clause-slots : goal.returns-clause-slots
returns-clause-slots c n =
    let at = c.in-Some.ensures.found in
    rw c.from.ensures (slot_after_is c.args.columns.now c.requires.columns.table c.in-Some.index c.args.far n nothing at.0 (at.1 nothing).0 (at.1 nothing).1)

pub returns-clause-slots_left : goal.returns-clause-slots_left
returns-clause-slots_left c =
    let at = c.in-Some.ensures.found in
    rw c.from.ensures (slots_from_is c.args.columns.now c.requires.columns.table c.in-Some.index c.args.far nothing at.0 (at.1 nothing).0 (at.1 nothing).1)

use Rattle.std.proofs.Common.{◌-◌, arith}
use Rattle.x7_part.proofs.ColumnLemmas.{slot_frame, slot_pad, missing_slot, nothing, bounded, first_slot}
use Rattle.x7_part.proofs.column.slot_at.Goals as goal

pub overflow_add-result : goal.overflow_add-result
overflow_add-result c =
    let b = bounded 0 0 0 c.args.columns.now c.requires.table (c.begun_by_slot-after.result - 1) nothing (omega arith) in
    record { fits = omega arith }

pub returns-then-after-eq0 : goal.returns-then-after-eq0
returns-then-after-eq0 c = first_slot c.args.columns.now c.args.slot_number c.requires.table (λ k d h. c.begun_by_slot-after.ensures.after k d (omega arith) h)

pub returns-then-offset-from : goal.returns-then-offset-from
returns-then-offset-from c =
    slot_frame c.args.columns.now c.requires.table (c.begun_by_slot-after.result - 1) c.args.slot_number nothing (omega arith)
    (c.begun_by_slot-after.ensures.before (c.begun_by_slot-after.result - 1) nothing (omega arith)) (omega (arith, c.if-offset-from.true, c.from.ensures))

pub returns-then-offset-from-2 : goal.returns-then-offset-from-2
returns-then-offset-from-2 c =
    slot_pad c.args.columns.now c.requires.table (c.begun_by_slot-after.result - 1) c.args.slot_number nothing (omega arith)
    (c.begun_by_slot-after.ensures.before (c.begun_by_slot-after.result - 1) nothing (omega arith)) (omega (arith, c.if-offset-from.false, c.from.ensures)) (omega (arith, c.if-offset-from-2.true, c.from-else-offset-from.ensures, c.from-else-offset-from-2.ensures))

pub returns-else-offset-from-2 : goal.returns-else-offset-from-2
returns-else-offset-from-2 c =
    missing_slot c.args.columns.now c.args.slot_number c.begun_by_slot-after.result c.requires.table c.begun_by_slot-after.ensures.within
    c.if-after-eq0.false c.begun_by_slot-after.ensures.before c.begun_by_slot-after.ensures.after (omega (arith, c.if-offset-from-2.false, c.from-else-offset-from.ensures, c.from-else-offset-from-2.ensures))

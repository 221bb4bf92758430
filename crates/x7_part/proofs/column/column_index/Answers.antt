use Rattle.std.proofs.Common.{◌-◌, arith}
use Rattle.x7_part.proofs.ColumnLemmas.{past_column, past_last, column_lists, nothing}
use Rattle.x7_part.proofs.column.column_index.Goals as goal

pub returns-then-after-eq0-clause-absent : goal.returns-then-after-eq0-clause-absent
returns-then-after-eq0-clause-absent c =
    past_column c.args.columns.now c.args.far c.begun_by_address-after.result c.requires.table c.begun_by_address-after.ensures.within
    c.begun_by_address-after.ensures.after (λ k d e. absurd (omega arith))

pub returns-else-far-column-clause-absent : goal.returns-else-far-column-clause-absent
returns-else-far-column-clause-absent c =
    past_last c.args.columns.now c.args.far c.begun_by_address-after.result c.requires.table c.begun_by_address-after.ensures.within
    c.if-after-eq0.false c.begun_by_address-after.ensures.before c.begun_by_address-after.ensures.after c.if-far-column.false

pub returns-then-far-column-clause-address : goal.returns-then-far-column-clause-address
returns-then-far-column-clause-address c =
    column_lists c.args.columns.now c.requires.table (c.begun_by_address-after.result - 1) c.args.far nothing (omega arith)
    (c.begun_by_address-after.ensures.before (c.begun_by_address-after.result - 1) nothing (omega arith)) (let inside = c.if-far-column.true in let low = c.begun_by_address-after.ensures.before (c.begun_by_address-after.result - 1) nothing (omega arith) in omega arith)

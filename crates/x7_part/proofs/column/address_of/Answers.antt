use Rattle.std.proofs.Common.{◌-◌, arith}
use Rattle.x7_part.proofs.ColumnLemmas.{address_found, address_missing, missing_last, nothing, bounded}
use Rattle.x7_part.proofs.column.address_of.Goals as goal

pub overflow_add-result : goal.overflow_add-result
overflow_add-result c =
    let b = bounded 0 0 0 c.args.columns.now c.requires.table (c.begun_by_rank-after.result - 1) nothing (omega arith) in
    record { fits = omega arith }

pub returns-then-after-eq0-clause-past_end : goal.returns-then-after-eq0-clause-past_end
returns-then-after-eq0-clause-past_end c =
    address_missing c.args.columns.now c.requires.table c.begun_by_rank-after.result c.args.rank nothing c.begun_by_rank-after.ensures.within
    c.begun_by_rank-after.ensures.after (λ k e. absurd (omega arith))

pub returns-then-minor-column-clause-found : goal.returns-then-minor-column-clause-found
returns-then-minor-column-clause-found c =
    address_found c.args.columns.now c.requires.table (c.begun_by_rank-after.result - 1) c.args.rank nothing (omega arith)
    (c.begun_by_rank-after.ensures.before (c.begun_by_rank-after.result - 1) nothing (omega arith)) c.if-minor-column.true

pub returns-else-minor-column-clause-past_end : goal.returns-else-minor-column-clause-past_end
returns-else-minor-column-clause-past_end c =
    missing_last c.args.columns.now c.args.rank c.begun_by_rank-after.result c.requires.table c.begun_by_rank-after.ensures.within
    c.if-after-eq0.false c.begun_by_rank-after.ensures.before c.begun_by_rank-after.ensures.after c.if-minor-column.false

use Rattle.std.proofs.Common.{inl, arith}
use Rattle.x7_part.proofs.ColumnLemmas.{next_inside, next_column, next_none, bounded, nothing}
use Rattle.x7_part.proofs.column.next_of.Goals as goal

pub overflow_add-result : goal.overflow_add-result
overflow_add-result c =
    let at = c.in_ok-index.ensures.found in
    let b = bounded 0 0 0 c.args.columns.now c.requires.table c.in_ok-index.index nothing at.0 in
    let low = (at.1 nothing).0 in let high = (at.1 nothing).1 in
    record { fits = omega arith }

pub returns-then-far-column-clause-found : goal.returns-then-far-column-clause-found
returns-then-far-column-clause-found c =
    let at = c.in_ok-index.ensures.found in
    let low = (at.1 nothing).0 in let high = (at.1 nothing).1 in let inside = c.if-far-column.true in
    next_inside c.args.columns.now c.requires.table c.in_ok-index.index c.args.far nothing at.0 low (omega arith)

pub returns-then-index-columns-clause-last_or_absent : goal.returns-then-index-columns-clause-last_or_absent
returns-then-index-columns-clause-last_or_absent c =
    let at = c.in_ok-index.ensures.found in
    let low = (at.1 nothing).0 in let high = (at.1 nothing).1 in let outside = c.if-far-column.false in
    inl (next_none c.args.columns.now c.requires.table c.in_ok-index.index c.args.far nothing c.if-index-columns.true low (omega arith))

pub returns-clause-found : goal.returns-clause-found
returns-clause-found c =
    let at = c.in_ok-index.ensures.found in
    let low = (at.1 nothing).0 in let high = (at.1 nothing).1 in let outside = c.if-far-column.false in let in' = at.0 in
    next_column c.args.columns.now c.requires.table c.in_ok-index.index c.args.far nothing (omega (arith, c.if-index-columns.false)) low (omega arith)

use Rattle.x7_mcs.proofs.McsLinesLemmas.{last_bytes, last_fault, last_no_end, last_wants}
use Rattle.std.proofs.lemmas.Result.{err_from_is_err_and}
use Rattle.x7_mcs.proofs.mcs_lines.McsLinesTakesLines.take_last.Goals as goal

pub returns-in_err-take_bare_line-clause-read : goal.returns-in_err-take_bare_line-clause-read
returns-in_err-take_bare_line-clause-read c =
    let p = err_from_is_err_and c.from_residual.result c.from_residual.ensures.1 in
    rw (p.1, p.2) (λ first lines gets. last_fault c.args.self lines c.args.line_number gets.number gets.took c.args.line.now c.in_err-take_bare_line.field-0.0 (c.in_err-take_bare_line.ensures gets.took.records gets.took.holds))

pub returns-then-not-last-clause-read : goal.returns-then-not-last-clause-read
returns-then-not-last-clause-read c = λ first lines gets.
    last_no_end c.args.self lines c.args.line_number gets.number gets.took c.args.line.now c.take_bare_line.new.self (c.in_ok-take_bare_line.ensures gets.took.records gets.took.holds) c.if-not-last.true

pub returns-clause-read : goal.returns-clause-read
returns-clause-read c = λ first lines gets.
    last_bytes c.args.self lines c.args.line_number gets.number gets.took c.args.line.now c.take_bare_line.new.self (c.in_ok-take_bare_line.ensures gets.took.records gets.took.holds) c.if-not-last.false

pub returns-in_err-take_bare_line-clause-memory : goal.returns-in_err-take_bare_line-clause-memory
returns-in_err-take_bare_line-clause-memory c =
    let p = err_from_is_err_and c.from_residual.result c.from_residual.ensures.1 in
    rw (p.1, p.2) (λ first lines gets. last_wants c.args.self lines c.args.line_number gets.number gets.took c.args.line.now c.in_err-take_bare_line.field-0.0 (c.in_err-take_bare_line.ensures gets.took.records gets.took.holds))

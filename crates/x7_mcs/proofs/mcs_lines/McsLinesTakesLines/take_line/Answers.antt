use Rattle.x7_mcs.proofs.McsLinesLemmas.{line_came, line_wanted}
use Rattle.x7_mcs.proofs.mcs_lines.McsLinesTakesLines.take_line.Goals as goal

pub returns-clause-read : goal.returns-clause-read
returns-clause-read c = λ first lines gets.
    line_came c.args.self.now lines c.args.line_number gets.number gets.took c.take_bare_line.result c.take_bare_line.new.self c.args.line.now c.without_return.result.now c.without_return.ensures (c.take_bare_line.ensures gets.took.records gets.took.holds)

pub returns-clause-memory : goal.returns-clause-memory
returns-clause-memory c = λ first lines gets.
    line_wanted c.args.self.now lines c.args.line_number gets.number gets.took c.take_bare_line.result c.take_bare_line.new.self c.args.line.now c.without_return.result.now c.without_return.ensures (c.take_bare_line.ensures gets.took.records gets.took.holds)

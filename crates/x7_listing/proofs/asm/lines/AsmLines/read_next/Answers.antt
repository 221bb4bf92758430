use Rattle.std.proofs.Common.{arith}
use Rattle.x7_listing.proofs.asm.AsmLinesLemmas.{first_read, first_wants, next_read, next_wants}
use Rattle.x7_listing.proofs.asm.lines.AsmLines.read_next.Goals as goal

pub returns-then-line_number-eq1-clause-read : goal.returns-then-line_number-eq1-clause-read
returns-then-line_number-eq1-clause-read c = λ lines gets. first_read c.read_first.result c.args.self.now c.read_first.new.self c.args.line.now lines (omega (arith, gets.number, c.if-line_number-eq1.true)) c.read_first.ensures.reads c.read_first.ensures.room c.read_first.ensures.fault gets.took

pub returns-then-line_number-eq1-clause-memory : goal.returns-then-line_number-eq1-clause-memory
returns-then-line_number-eq1-clause-memory c = λ lines gets. first_wants c.read_first.result c.args.line.now lines (omega (arith, gets.number, c.if-line_number-eq1.true))

pub returns-clause-memory : goal.returns-clause-memory
returns-clause-memory c = λ lines gets. next_wants c.read_one.result c.args.self.now c.read_one.new.self c.args.line_number c.args.line.now lines gets.number (λ e. omega (arith, e, c.if-line_number-eq1.false)) c.read_one.ensures.memory gets.took

pub returns-clause-read : goal.returns-clause-read
returns-clause-read c = λ lines gets. next_read c.read_one.result c.args.self.now c.read_one.new.self c.args.line_number c.args.line.now lines gets.number (λ e. omega (arith, e, c.if-line_number-eq1.false)) c.read_one.ensures.reads c.read_one.ensures.room c.read_one.ensures.fault gets.took

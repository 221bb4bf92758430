use Rattle.x7_listing.proofs.asm.AsmLinesLemmas.{with_more}
use Rattle.x7_listing.proofs.asm.lines.AsmLinesTakesLines.take_line.Goals as goal

pub returns-clause-read : goal.returns-clause-read
returns-clause-read c = λ first lines gets. with_more c.read_next.result c.read_next.new.self c.args.line.now lines (c.read_next.ensures.read lines gets)

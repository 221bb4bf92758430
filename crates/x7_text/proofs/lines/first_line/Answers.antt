use Rattle.x7_text.proofs.SplitLemmas.{first_line, last_line}
use Rattle.x7_text.proofs.lines.first_line.Goals as goal

pub returns-in-Some : goal.returns-in-Some
returns-in-Some c = first_line c.args.text.now c.in-Some.at c.in-Some.ensures.0.before c.in-Some.ensures.0.high c.in-Some.ensures.1

pub returns-in-None : goal.returns-in-None
returns-in-None c = last_line c.args.text.now c.in-None.ensures

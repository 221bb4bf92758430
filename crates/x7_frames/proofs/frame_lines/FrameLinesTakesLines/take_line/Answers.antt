use Rattle.x7_frames.proofs.FrameLinesLemmas.{line_read, line_wanted}
use Rattle.x7_frames.proofs.frame_lines.FrameLinesTakesLines.take_line.Goals as goal

pub returns-clause-read : goal.returns-clause-read
returns-clause-read c = λ first lines gets. line_read first.part c.args.self.now lines c.args.line.now c.args.line_number gets.number gets.took c.take.result _ c.take.ensures.part c.take.ensures.taken c.take.ensures.fault

pub returns-clause-memory : goal.returns-clause-memory
returns-clause-memory c = λ first lines gets. line_wanted first.part c.args.self.now lines c.args.line.now c.args.line_number gets.number gets.took c.take.result c.take.ensures.memory

use Rattle.x7_frames.proofs.WantLemmas.{first_good, text_good}
use Rattle.x7_frames.proofs.laws.memory_wants_for_good_lines.Goals as goal

pub returns-clause-piece : goal.returns-clause-piece
returns-clause-piece c = λ part r text piece line after w. first_good part r text w.0 piece line after w.1

pub returns-clause-end : goal.returns-clause-end
returns-clause-end c = λ part r text w. text_good part r text w.0 w.1

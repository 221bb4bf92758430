use Rattle.x7_mcs.proofs.LawLemmas.{in_turn}
use Rattle.x7_mcs.proofs.laws.lines_in_turn.Goals as goal

pub returns : goal.returns
returns c = λ n r first others. in_turn first n r others

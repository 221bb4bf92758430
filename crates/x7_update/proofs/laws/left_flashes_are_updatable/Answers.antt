use Rattle.x7_update.proofs.LawLemmas.{left_updatable}
use Rattle.x7_update.proofs.laws.left_flashes_are_updatable.Goals as goal

pub returns : goal.returns
returns c = λ stream flash found l m more. left_updatable stream flash found l m more

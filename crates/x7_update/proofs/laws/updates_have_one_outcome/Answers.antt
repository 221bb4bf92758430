use Rattle.x7_update.proofs.LawLemmas.{one_after}
use Rattle.x7_update.proofs.laws.updates_have_one_outcome.Goals as goal

pub returns : goal.returns
returns c = λ stream flash one other l a b. one_after stream flash one other l a b

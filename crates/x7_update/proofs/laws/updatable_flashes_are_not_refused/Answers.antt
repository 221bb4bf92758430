use Rattle.x7_update.proofs.ExactLemmas.{updatable_or_not}
use Rattle.x7_update.proofs.laws.updatable_flashes_are_not_refused.Goals as goal

pub returns : goal.returns
returns c = λ flash place l n. updatable_or_not flash place l n

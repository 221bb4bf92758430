use Rattle.x7_listing.proofs.BoundLemmas.{few_held}
use Rattle.x7_listing.proofs.laws.few_bytes_are_held.Goals as goal

pub returns : goal.returns
returns c = λ l given before bytes s. few_held l given before bytes s

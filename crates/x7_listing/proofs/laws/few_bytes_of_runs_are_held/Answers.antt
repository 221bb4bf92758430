use Rattle.x7_listing.proofs.BoundLemmas.{few_taken}
use Rattle.x7_listing.proofs.laws.few_bytes_of_runs_are_held.Goals as goal

pub returns : goal.returns
returns c = λ l given before bytes due t. few_taken l given before bytes due t

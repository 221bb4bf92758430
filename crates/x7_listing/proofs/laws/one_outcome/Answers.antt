use Rattle.x7_listing.proofs.OutcomeLemmas.{one_outcome}
use Rattle.x7_listing.proofs.laws.one_outcome.Goals as goal

pub returns : goal.returns
returns c = one_outcome

use Rattle.x7_listing.proofs.list.ListerLemmas.{one_listing}
use Rattle.x7_listing.proofs.laws.one_listing.Goals as goal

pub returns : goal.returns
returns c = one_listing

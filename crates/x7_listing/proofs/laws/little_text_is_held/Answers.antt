use Rattle.x7_listing.proofs.BoundLemmas.{listing_held}
use Rattle.x7_listing.proofs.laws.little_text_is_held.Goals as goal

pub returns : goal.returns
returns c = λ l given before bytes s. listing_held l given before bytes s

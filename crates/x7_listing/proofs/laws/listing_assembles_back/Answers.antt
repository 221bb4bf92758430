use Rattle.x7_listing.proofs.StreamLemmas.{stream_back}
use Rattle.x7_listing.proofs.laws.listing_assembles_back.Goals as goal

pub returns : goal.returns
returns c = λ bytes text a h e. stream_back bytes text a h e

use Rattle.x7_listing.proofs.ListingLengthLemmas.{stream_short}
use Rattle.x7_listing.proofs.laws.listing_is_short.Goals as goal

pub returns : goal.returns
returns c = stream_short

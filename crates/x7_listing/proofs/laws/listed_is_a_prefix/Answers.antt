use Rattle.x7_listing.proofs.PrefixLemmas.{prefix_after_others}
use Rattle.x7_listing.proofs.laws.listed_is_a_prefix.Goals as goal

pub returns : goal.returns
returns c = λ l given before bytes rest s f. prefix_after_others l given before bytes rest s f

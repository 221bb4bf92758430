use Rattle.x7_listing.proofs.GuessLemmas.{one_line}
use Rattle.x7_listing.proofs.laws.one_line.Goals as goal

pub returns : goal.returns
returns c = one_line

use Rattle.x7_listing.proofs.EveryAsmLemmas.{has_outcome}
use Rattle.x7_listing.proofs.laws.every_text_is_assembled.Goals as goal

pub returns : goal.returns
returns c = has_outcome

use Rattle.x7_mcs.proofs.SizeLemmas.{text_short}
use Rattle.x7_mcs.proofs.laws.text_is_short.Goals as goal

pub returns : goal.returns
returns c = text_short

use Rattle.x7_mcs.proofs.BackLemmas.{text_gives}
use Rattle.x7_mcs.proofs.laws.text_leads_back.Goals as goal

pub returns : goal.returns
returns c = text_gives

use Rattle.x7_frames.proofs.BackLemmas.{back}
use Rattle.x7_frames.proofs.laws.plan_text_leads_back.Goals as goal

pub returns : goal.returns
returns c = back

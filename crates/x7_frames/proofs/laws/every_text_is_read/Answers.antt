use Rattle.x7_frames.proofs.EveryTextLemmas.{has_plan}
use Rattle.x7_frames.proofs.laws.every_text_is_read.Goals as goal

pub returns : goal.returns
returns c = has_plan

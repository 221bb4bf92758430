use Rattle.x7_flow.proofs.InsideLemmas.{memory_has}
use Rattle.x7_flow.proofs.laws.memory_has_frames.Goals as goal

pub returns : goal.returns
returns c = memory_has

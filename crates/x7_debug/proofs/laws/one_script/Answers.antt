use Rattle.x7_debug.proofs.UniqueLemmas.{one_script}
use Rattle.x7_debug.proofs.laws.one_script.Goals as goal

pub returns : goal.returns
returns c = one_script

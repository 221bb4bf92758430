use Rattle.x7_recovery.proofs.GoldenLemmas.{same_golden_alike}
use Rattle.x7_recovery.proofs.golden_law.flashes_that_lead_nowhere_start_alike.Goals as goal

pub returns : goal.returns
returns c = same_golden_alike

use Rattle.x7_recovery.proofs.GoldenLemmas.{found_alike}
use Rattle.x7_recovery.proofs.golden_law.found_flashes_boot_alike.Goals as goal

pub returns : goal.returns
returns c = found_alike

use Rattle.x7_recovery.proofs.FoundLemmas.{found_boots}
use Rattle.x7_recovery.proofs.laws.found_flashes_boot.Goals as goal

pub returns : goal.returns
returns c = found_boots

use Rattle.x7_boot.proofs.EveryBootLemmas.{has_boot}
use Rattle.x7_boot.proofs.laws.every_flash_boots.Goals as goal

pub returns : goal.returns
returns c = has_boot

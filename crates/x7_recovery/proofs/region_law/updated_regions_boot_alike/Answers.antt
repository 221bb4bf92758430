use Rattle.x7_recovery.proofs.RegionLemmas.{region_boots}
use Rattle.x7_recovery.proofs.region_law.updated_regions_boot_alike.Goals as goal

pub returns : goal.returns
returns c = λ u more found b l others boot. region_boots u more found b l.prepared others l.left boot

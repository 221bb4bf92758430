use Rattle.x7_recovery.proofs.RegionLemmas.{boots_more}
use Rattle.x7_recovery.proofs.region_law.regions_boot_alone.Goals as goal

pub returns : goal.returns
returns c = λ part region more b w. boots_more part region more b w.boot w.within

use Rattle.x7_recovery.proofs.AnyBootLemmas.{boots_open}
use Rattle.x7_recovery.proofs.open_law.open_slots_boot.Goals as goal

pub returns : goal.returns
returns c = boots_open

use Rattle.std.proofs.Common.{drop}
use Rattle.x7_packets.specs.FlashSlot.{sector_size}
use Rattle.x7_update.proofs.LawLemmas.{no_sync}
use Rattle.x7_recovery.proofs.GoldenLemmas.{erased_leads_nowhere}
use Rattle.x7_recovery.proofs.golden_law.flashes_between_slots_lead_nowhere.Goals as goal

pub returns-clause-erased : goal.returns-clause-erased
returns-clause-erased c = λ flash. erased_leads_nowhere (drop sector_size flash)

pub returns-clause-between : goal.returns-clause-between
returns-clause-between c = no_sync

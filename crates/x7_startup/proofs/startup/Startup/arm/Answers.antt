use Rattle.x7_startup.proofs.CallLemmas.{arm_stands}
use Rattle.x7_startup.proofs.startup.Startup.arm.Goals as goal

pub returns : goal.returns
returns c = record { stands = λ lock_ticks match_ticks calls h. arm_stands lock_ticks match_ticks _ calls (rw (← c.self.view_is) at h) }

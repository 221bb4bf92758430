use Rattle.x7_startup.proofs.WatchdogLemmas.{reload_watches}
use Rattle.x7_startup.proofs.watchdog.Watchdog.reload.Goals as goal

pub returns : goal.returns
returns c = record { stands = λ off first calls h. reload_watches off first _ calls (rw (← c.self.view_is) at h) }

use Rattle.x7_startup.proofs.WatchdogLemmas.{load_watches}
use Rattle.x7_startup.proofs.watchdog.Watchdog.load.Goals as goal

pub returns : goal.returns
returns c = record {
  stands = λ off first calls h. load_watches off first _ calls c.args.timer c.limit_of.result c.limit_of.ensures (rw (← c.self.view_is) at h);
}

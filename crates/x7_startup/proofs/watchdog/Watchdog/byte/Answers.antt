use Rattle.std.proofs.Common.{refl}
use Rattle.x7_startup.proofs.WatchdogLemmas.{idle_watches, idle_fires, byte_watches, byte_fires}
use Rattle.x7_startup.proofs.watchdog.Watchdog.byte.Goals as goal

pub returns-then-not-is_on-clause-stands : goal.returns-then-not-is_on-clause-stands
returns-then-not-is_on-clause-stands c off first calls h =
    rw (← c.self.view_is) (idle_watches off first _ calls c.args.eos c.is_on.result (rw (← c.self.view_is) at h) c.is_on.ensures c.if-not-is_on.true)

pub returns-then-not-is_on-clause-fires : goal.returns-then-not-is_on-clause-fires
returns-then-not-is_on-clause-fires c off first calls h =
    idle_fires off first _ calls c.args.eos c.is_on.result (rw (← c.self.view_is) at h) c.is_on.ensures c.if-not-is_on.true

pub returns-clause-stands : goal.returns-clause-stands
returns-clause-stands c off first calls h =
    byte_watches off first _ calls c.args.eos c.is_on.result c.saturating_add-self-inside.result (rw (← c.self.view_is) at h) c.is_on.ensures c.if-not-is_on.false
    c.saturating_add-self-inside.ensures

pub returns-clause-fires : goal.returns-clause-fires
returns-clause-fires c off first calls h =
    byte_fires off first _ calls c.args.eos c.is_on.result c.saturating_add-self-inside.result _ (rw (← c.self.view_is) at h) c.is_on.ensures c.if-not-is_on.false
    c.saturating_add-self-inside.ensures refl

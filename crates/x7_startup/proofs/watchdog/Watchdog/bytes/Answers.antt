use Rattle.std.proofs.Common.{arith}
use Rattle.x7_startup.proofs.WatchdogLemmas.{alike_watches, alike_quiet, alike_fired}
use Rattle.x7_startup.proofs.watchdog.Watchdog.bytes.Goals as goal

pub returns-in_default-clause-none_fires : goal.returns-in_default-clause-none_fires
returns-in_default-clause-none_fires c off first calls h =
    let k = rw (← c.self.view_is) at h in (
      alike_watches off first _ calls c.args.eos c.is_on-on.result c.args.count c.count_after-self-inside.result k c.is_on-on.ensures c.count_after-self-inside.ensures,
      λ n below. alike_quiet off first _ calls c.args.eos c.is_on-on.result n k c.is_on-on.ensures
          (λ on full. c.in_default.ensures.none_fires n below on (omega (arith, full))),
    )

pub returns-clause-fires : goal.returns-clause-fires
returns-clause-fires c off first calls h =
    let at = c.in-Some.ensures.fires in
    alike_fired off first _ calls c.args.eos c.is_on-on.result c.in-Some.n c.args.count (rw (← c.self.view_is) at h) c.is_on-on.ensures at.0 at.1 at.2 at.3

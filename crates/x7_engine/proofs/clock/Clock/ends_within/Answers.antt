use Rattle.std.proofs.Common.{◌+◌}
use Rattle.x7_engine.proofs.ClockLemmas.{startup_bytes}
use Rattle.x7_engine.proofs.clock.Clock.ends_within.Goals as goal

pub returns : goal.returns
returns c = λ kept h n l s.
    c.startup_ended.ensures.value c.args.part.now h (n + c.args.count)
    (startup_bytes c.args.part.now h n c.args.count c.lock.result c.matched.result c.args.self.now.startup c.bytes.new.self c.lock.ensures c.matched.ensures c.bytes.ensures.stands l s.startup)

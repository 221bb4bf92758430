use Rattle.std.proofs.Common.{◌≡◌, ◌+◌, ◌≤◌, ℕ}
use Rattle.x7_packets.specs.History.{History}
use Rattle.x7_startup.specs.Startup.{StandsForCalls}
use Rattle.x7_engine.specs.declared.kept.Kept.{Kept}
use Rattle.x7_engine.specs.Clock.{IsClock, clock_in, newest_place}
use Rattle.x7_engine.specs.Kept.{is_fallback}
use Rattle.x7_engine.specs.Startup.{startup_ended, startup_calls}
use Rattle.x7_engine.specs.Watching.{watch_calls}
use Rattle.x7_engine.proofs.ClockLemmas.{fires_bool, startup_bytes, watch_byte}
use Rattle.x7_engine.proofs.clock.Clock.byte.Goals as goal

startup_here : (c : goal.After-byte-2) (kept : Kept) (h : History) (n : ℕ) → newest_place h ≤ n → IsClock c.args.part.now kept (clock_in c.args.self.now) h n
    → StandsForCalls c.args.part.now.lock c.args.part.now.matched c.byte.new.self (startup_calls h (n + 1))
startup_here c kept h n l s = startup_bytes c.args.part.now h n 1 c.lock.result c.matched.result c.args.self.now.startup c.byte.new.self c.lock.ensures c.matched.ensures c.byte.ensures.stands l s.startup

ends_here : (c : goal.After-byte-2) (kept : Kept) (h : History) (n : ℕ) → newest_place h ≤ n → IsClock c.args.part.now kept (clock_in c.args.self.now) h n
    → c.startup_ended-eos.result ≡ startup_ended c.args.part.now h (n + 1)
ends_here c kept h n l s = c.startup_ended-eos.ensures.value c.args.part.now h (n + 1) (startup_here c kept h n l s)

pub returns-clause-stands : goal.returns-clause-stands
returns-clause-stands c = λ kept h n l s. record {
  startup = startup_here c kept h n l s;
  watchdog = watch_byte c.args.part.now kept h n c.startup_ended-eos.result c.byte-2.new.self l (ends_here c kept h n l s) (c.byte-2.ensures.stands (is_fallback kept.kind) kept.timer (watch_calls c.args.part.now h n) s.watchdog);
}

pub returns-clause-fires : goal.returns-clause-fires
returns-clause-fires c = λ kept h n l s.
    fires_bool c.args.part.now kept h n c.startup_ended-eos.result c.byte-2.result l (ends_here c kept h n l s) (c.byte-2.ensures.fires (is_fallback kept.kind) kept.timer (watch_calls c.args.part.now h n) s.watchdog)

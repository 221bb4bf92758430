use Rattle.std.proofs.Common.{subst}
use Rattle.x7_packets.specs.History.{Access, Write}
use Rattle.x7_regs.specs.Register.{number_of}
use Rattle.x7_startup.specs.Startup.{StandsForCalls}
use Rattle.x7_startup.specs.Watchdog.{WatchesFor}
use Rattle.x7_engine.specs.Kept.{is_fallback}
use Rattle.x7_engine.specs.Startup.{startup_calls}
use Rattle.x7_engine.specs.Watching.{watch_calls}
use Rattle.x7_engine.proofs.ClockLemmas.{startup_written, watch_written}
use Rattle.x7_engine.proofs.clock.Clock.write.Goals as goal

pub returns : goal.returns
returns c = λ place part kept h w s.
    let access : Access = Write (number_of c.args.reg) c.args.word in
    record {
      startup = subst (λ t. StandsForCalls part.lock part.matched c.move_startup.new.startup t) (startup_written h access place c.args.executed c.args.takes_shutdown c.args.cor0 w.executed_is w.takes_shutdown_is w.cor0_is)
          (c.move_startup.ensures part.lock part.matched (startup_calls h place) s.startup);
      watchdog = subst (λ t. WatchesFor (is_fallback kept.kind) kept.timer c.move_watchdog.new.watchdog t) (watch_written part h access place c.args.executed w.executed_is)
          (c.move_watchdog.ensures (is_fallback kept.kind) kept.timer (watch_calls part h place) s.watchdog);
    }

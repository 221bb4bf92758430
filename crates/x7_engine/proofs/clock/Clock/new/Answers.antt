use Rattle.std.proofs.Common.{Bool, [], subst}
use Rattle.x7_startup.specs.Watchdog.{WatchesFor}
use Rattle.x7_engine.proofs.clock.Clock.new.Goals as goal

pub returns : goal.returns
returns c = λ part. record {
  startup = c.new.ensures.stands part.lock part.matched;
  watchdog = subst (λ (b : Bool). WatchesFor b c.args.kept.now.timer c.new-2.result []) c.is_fallback.ensures c.new-2.ensures.stands;
}

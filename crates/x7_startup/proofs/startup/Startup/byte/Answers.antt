use Rattle.std.proofs.Common.{sym, ap, ◌∙◌, arith}
use Rattle.x7_startup.specs.Startup.{StartupState}
use Rattle.x7_startup.proofs.CallLemmas.{idle_stands, running_stands, within_tick}
use Rattle.x7_startup.proofs.startup.Startup.byte.Goals as goal

pub returns-in_default : goal.returns-in_default
returns-in_default c = record {
  stands = λ calls h. idle_stands _ _ _ calls 1 (ap (λ (v : StartupState). v.begun_with) (sym c.self.view_is) ∙ c.in_default.is) h;
}

pub returns-then-self-lt-LAST_OF_TICK : goal.returns-then-self-lt-LAST_OF_TICK
returns-then-self-lt-LAST_OF_TICK c = record {
  stands = λ calls h. within_tick _ _ _ calls c.in-Some.cor0 c.in-Some.is (omega (arith, c.if-self-lt-LAST_OF_TICK.true)) (rw (← c.self.view_is) at h);
}

pub returns : goal.returns
returns c = record {
  stands = λ calls h.
      running_stands _ _ _ calls 1 c.in-Some.cor0 1 0 c.tick-next.result.ticks c.tick-next.result.phase
      c.in-Some.is (omega arith) (omega arith) c.tick-next.ensures.passes (rw (← c.self.view_is) at h);
}

use Rattle.x7_engine.specs.Startup.{startup_calls}
use Rattle.x7_engine.proofs.ClockLemmas.{phase_by_clock}
use Rattle.x7_engine.proofs.clock.Clock.phase.Goals as goal

pub returns-clause-value : goal.returns-clause-value
returns-clause-value c = λ part h n s. phase_by_clock part h n c.phase.result (c.phase.ensures.stands part.lock part.matched (startup_calls h n) s)

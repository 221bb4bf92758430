use Rattle.x7_engine.proofs.StartupLemmas.{phase_is}
use Rattle.x7_engine.proofs.laws.phases_are_the_greatest_begun.Goals as goal

pub returns : goal.returns
returns c = λ part h n. phase_is part (Rattle.x7_engine.specs.Startup.startup_progress h n)

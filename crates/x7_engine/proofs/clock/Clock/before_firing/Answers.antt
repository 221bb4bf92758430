use Rattle.x7_engine.specs.Clock.{clock_in}
use Rattle.x7_engine.proofs.FiringLemmas.{firing_first}
use Rattle.x7_engine.proofs.clock.Clock.before_firing.Goals as goal

pub returns-in-Some-clause-none_fires : goal.returns-in-Some-clause-none_fires
returns-in-Some-clause-none_fires c = λ kept h n l s.
    firing_first c.args.part.now kept (clock_in c.bytes.new.self) h n c.args.count c.in-Some.firing (c.in-Some.ensures.takes kept h n l s)

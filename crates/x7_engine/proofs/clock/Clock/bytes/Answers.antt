use Rattle.x7_engine.specs.Clock.{clock_in}
use Rattle.x7_engine.proofs.ClockLemmas.{idle_ticks}
use Rattle.x7_engine.proofs.clock.Clock.bytes.Goals as goal

pub returns-then-is_idle : goal.returns-then-is_idle
returns-then-is_idle c = record {
  within = tt;
  takes = λ kept h n l s.
      idle_ticks c.args.part.now kept (clock_in c.args.self.now) h n c.args.count l (c.is_idle.ensures.not_begun c.if-is_idle.true) (c.is_idle.ensures.no_limit c.if-is_idle.true) s;
}

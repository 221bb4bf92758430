use Rattle.std.proofs.Common.{◌≡◌, ap, ◌∙◌}
use Rattle.x7_startup.specs.Startup.{cor0_of}
use Rattle.x7_startup.specs.Lines.{done_line, gts_line, gwe_line}
use Rattle.x7_engine.specs.Startup.{phase_of, startup_calls, startup_progress}
use Rattle.x7_engine.proofs.ClockLemmas.{phase_by_clock}
use Rattle.x7_engine.proofs.clock.Clock.lines.Goals as goal

pub returns : goal.returns
returns c = λ part h n s.
    let phase : c.args.self.now.startup.phase ≡ phase_of part h n = phase_by_clock part h n c.args.self.now.startup.phase s.stores.phase_is in
    let a = c.lines.ensures.stands part.lock part.matched (startup_calls h n) s in
    λ i. record {
      done = (a.done_is ∙ ap (done_line (cor0_of (startup_progress h n))) phase) i;
      gts = (a.gts_is ∙ ap (gts_line (cor0_of (startup_progress h n))) phase) i;
      gwe = (a.gwe_is ∙ ap (gwe_line (cor0_of (startup_progress h n))) phase) i;
    }

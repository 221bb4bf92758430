use Rattle.std.proofs.Common.{None, ap, refl, ◌∙◌}
use Rattle.x7_regs.specs.declared.command.Command.TheVariants.{Null}
use Rattle.x7_pipeline.specs.Pipeline.{PipelineData}
use Rattle.x7_pipeline.proofs.StateLemmas.{begins}
use Rattle.x7_pipeline.proofs.pipeline.Pipeline.reset.Goals as goal

pub returns-clause-stands : goal.returns-clause-stands
returns-clause-stands c = λ part is.
    let wide = ap (λ (v : PipelineData). v.width) c.self.view_is in
    rw c.end_run.ensures (begins part _ Null 0 None c.self.invariant.some (wide ∙ is.0) (ap (λ (v : PipelineData). v.far_width) c.self.view_is ∙ is.1) refl refl refl refl refl refl refl refl)

use Rattle.std.proofs.Common.{◌≡◌, ◌∙◌, ◌%◌, ◌^◌, [], None, ap}
use Rattle.x7_part.specs.declared.slot.Slot.TheVariants.{Pad}
use Rattle.x7_pipeline.specs.Pipeline.{PipelineData}
use Rattle.x7_pipeline.specs.FarAsRead.{loaded_base}
use Rattle.x7_pipeline.proofs.StateLemmas.{begins_at}
use Rattle.x7_pipeline.proofs.pipeline.Pipeline.load.Goals as goal

pub returns-clause-stands : goal.returns-clause-stands
returns-clause-stands c = λ part f s.
    let bits : c.low_bits-self-inside.result ≡ loaded_base part c.args.far =
    c.low_bits-self-inside.ensures ∙ ap (λ w. c.args.far % 2 ^ w) (ap (λ (v : PipelineData). v.far_width) c.self.view_is ∙ s.far_width_is) in
    begins_at part c.args.self.now c.end_run.new.self f.command f.base f.run f.source f.given (loaded_base part c.args.far) s
    (c.end_run.ensures
    ∙ ap (λ (v : PipelineData). record v { base = c.low_bits-self-inside.result; rest = []; newest = None; frame_count = 0; given = 0; slot = Pad }) c.self.view_is
    ∙ ap (λ b. record c.args.self.now { base = b; rest = []; newest = None; frame_count = 0; given = 0; slot = Pad }) bits)

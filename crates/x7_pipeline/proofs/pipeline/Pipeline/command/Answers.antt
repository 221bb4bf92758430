use Rattle.std.proofs.Common.{◌∙◌, [], None, ap}
use Rattle.x7_pipeline.specs.Copies.{source_with}
use Rattle.x7_part.specs.declared.slot.Slot.TheVariants.{Pad}
use Rattle.x7_pipeline.specs.Pipeline.{PipelineData}
use Rattle.x7_pipeline.proofs.StateLemmas.{begins_under}
use Rattle.x7_pipeline.proofs.pipeline.Pipeline.command.Goals as goal

pub returns-clause-stands : goal.returns-clause-stands
returns-clause-stands c = λ f s.
    begins_under c.args.part.now c.args.self.now c.end_run.new.self f.command c.args.command f.base f.run f.source f.given c.far-self-inside.result s
    (c.end_run.ensures
    ∙ ap (λ (v : PipelineData). record v { command = c.args.command; rest = []; newest = None; frame_count = 0; given = 0; slot = Pad }) (c.self-2.view_is ∙ c.take_source.ensures)
    ∙ ap (λ (v : PipelineData). record v { command = c.args.command; base = c.far-self-inside.result; rest = []; newest = None; frame_count = 0; source = source_with v.command c.args.command v.newest; given = 0; slot = Pad }) c.self.view_is)
    (c.far-self-inside.ensures f s)

use Rattle.std.proofs.Common.{◌∙◌, ap, refl, sym, true, eq-eqb}
use Rattle.std.proofs.lemmas.Bool.{eqb-true}
use Rattle.x7_pipeline.specs.FarAsRead.{is_frame_address}
use Rattle.x7_pipeline.specs.Pipeline.{PipelineData}
use Rattle.x7_pipeline.proofs.StateLemmas.{nowhere, somewhere, read_refused, read_allowed}
use Rattle.x7_pipeline.proofs.pipeline.Pipeline.fault_of_read.Goals as goal

pub returns-then-reads_nowhere : goal.returns-then-reads_nowhere
returns-then-reads_nowhere c = λ f s.
    let t = nowhere true _ (is_frame_address c.args.part.now c.args.self.now.base) (sym c.reads_nowhere.ensures ∙ c.if-reads_nowhere.true) in
    rw (ap (λ (v : PipelineData). v.base) c.self.view_is)
    (read_refused c.args.part.now c.args.self.now f.command f.base f.run f.source f.given s (eqb-true c.args.self.now.given 0 t.1) t.2)

pub returns : goal.returns
returns c = λ f s.
    read_allowed c.args.part.now c.args.self.now f.command f.base f.run f.source f.given s
    (λ first. somewhere true _ (is_frame_address c.args.part.now c.args.self.now.base) (sym c.reads_nowhere.ensures ∙ c.if-reads_nowhere.false) refl (eq-eqb c.args.self.now.given 0 first))

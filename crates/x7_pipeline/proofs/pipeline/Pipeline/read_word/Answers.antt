use Rattle.std.proofs.Common.{◌∙◌, ap, refl, sym, true, eq-eqb}
use Rattle.std.proofs.lemmas.Bool.{eqb-true}
use Rattle.x7_memory.specs.PartFrames.{frame_at}
use Rattle.x7_pipeline.specs.FarAsRead.{is_frame_address}
use Rattle.x7_pipeline.specs.Pipeline.{PipelineData}
use Rattle.x7_pipeline.proofs.StateLemmas.{nowhere, somewhere, read_refused, read_allowed, read_so}
use Rattle.x7_pipeline.proofs.pipeline.Pipeline.read_word.Goals as goal

pub returns-then-reads_nowhere-clause-fault : goal.returns-then-reads_nowhere-clause-fault
returns-then-reads_nowhere-clause-fault c = λ f s.
    let t = nowhere true _ (is_frame_address c.args.part.now c.args.self.now.base) (sym c.reads_nowhere.ensures ∙ c.if-reads_nowhere.true) in
    rw (ap (λ (v : PipelineData). v.base) c.self.view_is)
    (read_refused c.args.part.now c.args.self.now f.command f.base f.run f.source f.given s (eqb-true c.args.self.now.given 0 t.1) t.2)

pub returns-clause-word : goal.returns-clause-word
returns-clause-word c = λ f s.
    c.word-word.ensures ∙ read_so c.args.part.now c.args.self.now (frame_at c.args.part.now c.args.memory.now) f.command f.base f.run f.source f.given s

pub returns-clause-stands : goal.returns-clause-stands
returns-clause-stands c = λ f s. c.pass_word.ensures.stands f s

pub returns-clause-fault : goal.returns-clause-fault
returns-clause-fault c = λ f s.
    read_allowed c.args.part.now c.args.self.now f.command f.base f.run f.source f.given s
    (λ first. somewhere true _ (is_frame_address c.args.part.now c.args.self.now.base) (sym c.reads_nowhere.ensures ∙ c.if-reads_nowhere.false) refl (eq-eqb c.args.self.now.given 0 first))

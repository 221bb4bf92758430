use Rattle.std.proofs.Common.{◌∙◌, ap, refl, sym, true, eq-eqb}
use Rattle.std.proofs.lemmas.Bool.{eqb-true}
use Rattle.x7_pipeline.specs.FarAsRead.{is_frame_address}
use Rattle.x7_pipeline.specs.Pipeline.{PipelineData}
use Rattle.x7_pipeline.proofs.StateLemmas.{nowhere, somewhere, read_refused, read_allowed, drop_some, drop_none, reads_on, same_given}
use Rattle.x7_pipeline.proofs.pipeline.Pipeline.drop_words.Goals as goal

pub returns-then-count-eq0-clause-stands : goal.returns-then-count-eq0-clause-stands
returns-then-count-eq0-clause-stands c = λ f s.
    same_given c.args.part.now c.args.self.now c.args.count f.command f.base f.run f.source f.given c.if-count-eq0.true s

pub returns-then-count-eq0-clause-fault : goal.returns-then-count-eq0-clause-fault
returns-then-count-eq0-clause-fault c = λ f s. drop_none c.args.part.now f.base f.given c.args.count c.if-count-eq0.true

pub returns-then-reads_nowhere-clause-fault : goal.returns-then-reads_nowhere-clause-fault
returns-then-reads_nowhere-clause-fault c = λ f s.
    let t = nowhere true _ (is_frame_address c.args.part.now c.args.self.now.base) (sym c.reads_nowhere.ensures ∙ c.if-reads_nowhere.true) in
    rw (ap (λ (v : PipelineData). v.base) c.self.view_is)
    (read_refused c.args.part.now c.args.self.now f.command f.base f.run f.source f.given s (eqb-true c.args.self.now.given 0 t.1) t.2
    ∙ drop_some c.args.part.now f.base f.given c.args.count c.if-count-eq0.false)

pub returns-clause-stands : goal.returns-clause-stands
returns-clause-stands c = λ f s.
    reads_on c.args.part.now c.args.self.now c.pass_words.new.self c.args.count _ f.command f.base f.run f.source f.given s refl c.pass_words.ensures

pub returns-clause-fault : goal.returns-clause-fault
returns-clause-fault c = λ f s.
    read_allowed c.args.part.now c.args.self.now f.command f.base f.run f.source f.given s
    (λ first. somewhere true _ (is_frame_address c.args.part.now c.args.self.now.base) (sym c.reads_nowhere.ensures ∙ c.if-reads_nowhere.false) refl (eq-eqb c.args.self.now.given 0 first))
    ∙ drop_some c.args.part.now f.base f.given c.args.count c.if-count-eq0.false

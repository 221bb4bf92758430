use Rattle.std.proofs.Common.{◌≡◌, ◌+◌, ◌∙◌, ap, sym, refl, arith}
use Rattle.x7_pipeline.specs.PipelineFields.{pipeline_seen}
use Rattle.x7_pipeline.specs.Pipeline.{PipelineData}
use Rattle.x7_pipeline.proofs.StateLemmas.{alike, steps_nowhere, steps_in, steps_over, few_given}
use Rattle.x7_pipeline.proofs.pipeline.Pipeline.pass_word.Goals as goal

pub returns-in-End-clause-stands : goal.returns-in-End-clause-stands
returns-in-End-clause-stands c = λ f s.
    steps_nowhere c.args.part.now c.args.self.now f.command f.base f.run f.source f.given s (let at = ap (λ (v : PipelineData). v.slot) c.self.view_is in sym at ∙ c.in-End.is)

pub returns-then-self-from-ne0-clause-stands : goal.returns-then-self-from-ne0-clause-stands
returns-then-self-from-ne0-clause-stands c = λ f s.
    let now = alike c.args.part.now c.args.self.now (pipeline_seen c.self.inside) f.command f.base f.run f.source f.given c.self.view_is s in
    let few = few_given c.args.part.now (pipeline_seen c.self.inside) f.command f.base f.run f.source f.given now c.frames-frames.ensures.part in
    let up : c.saturating_add-self-inside.result ≡ c.self.inside.given + 1 = (let a = c.saturating_add-self-inside.ensures in omega arith) in
    steps_in c.args.part.now (pipeline_seen c.self.inside) _ f.command f.base f.run f.source f.given now c.in_default.not-End
    (λ none. c.if-self-from-ne0.true (rw (up, c.from.ensures) none)) (ap (λ n. record (pipeline_seen c.self.inside) { given = n }) up)

pub returns-clause-stands : goal.returns-clause-stands
returns-clause-stands c = λ f s.
    let now = alike c.args.part.now c.args.self.now (pipeline_seen c.self.inside) f.command f.base f.run f.source f.given c.self.view_is s in
    let few = few_given c.args.part.now (pipeline_seen c.self.inside) f.command f.base f.run f.source f.given now c.frames-frames.ensures.part in
    let up : c.saturating_add-self-inside.result ≡ c.self.inside.given + 1 = (let a = c.saturating_add-self-inside.ensures in omega arith) in
    steps_over c.args.part.now (pipeline_seen c.self.inside) _ f.command f.base f.run f.source f.given now c.in_default.not-End
    (ap (λ n. record (pipeline_seen c.self.inside) { given = n; slot = c.readback_slot-self-inside.result }) up
    ∙ ap (λ slot. record (pipeline_seen c.self.inside) { given = c.self.inside.given + 1; slot = slot })
    (c.readback_slot-self-inside.ensures ∙ rw (up, c.from-2.ensures) refl))

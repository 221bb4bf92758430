use Rattle.std.proofs.Common.{◌≡◌, ◌-◌, ◌/◌, ◌∙◌, ap, max, arith}
use Rattle.x7_pipeline.specs.Pipeline.{PipelineData}
use Rattle.x7_pipeline.specs.FarAsRead.{far_at as address_at}
use Rattle.x7_pipeline.proofs.StateLemmas.{far_so}
use Rattle.x7_pipeline.proofs.pipeline.Pipeline.far.Goals as goal

pub returns : goal.returns
returns c = λ f s.
    let width = ap (λ (v : PipelineData). v.width) c.self.view_is in
    let some = c.self.invariant.some in
    let slot : c.saturating_sub.result ≡ max c.self.inside.frame_count (c.self.inside.given / c.self.inside.width) - 1 = cc in
    c.far_at.ensures ∙ ap (address_at c.args.part.now c.self.inside.base) slot
    ∙ ap (λ (v : PipelineData). address_at c.args.part.now v.base (max v.frame_count (v.given / v.width) - 1)) c.self.view_is
    ∙ far_so c.args.part.now c.args.self.now f.command f.base f.run f.source f.given s (omega arith)

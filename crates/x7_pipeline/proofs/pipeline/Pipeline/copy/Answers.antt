use Rattle.std.proofs.Common.{◌≡◌, ◌∙◌, ◌&&◌, true, is_some, ap, sym}
use Rattle.std.proofs.lemmas.Bool.{and_parts}
use Rattle.x7_memory.specs.PartFrames.{frame_at}
use Rattle.x7_pipeline.specs.Copies.{is_mfw}
use Rattle.x7_pipeline.specs.FarAsRead.{is_frame_address}
use Rattle.x7_pipeline.specs.Pipeline.{PipelineData}
use Rattle.x7_pipeline.proofs.SlotLemmas.{has_address}
use Rattle.x7_pipeline.proofs.StateLemmas.{put_copy, source_is, copy_refused, copy_asks, address_refused, address_allowed}
use Rattle.x7_pipeline.proofs.pipeline.Pipeline.copy.Goals as goal

pub returns-then-not-may_copy-clause-fault : goal.returns-then-not-may_copy-clause-fault
returns-then-not-may_copy-clause-fault c = λ f s.
    copy_refused c.args.part.now f.command f.base f.source (rw (← s.command_is, ← s.source_is) (sym c.may_copy.ensures ∙ c.if-not-may_copy.true))

pub returns-then-not-is_frame_address-clause-fault : goal.returns-then-not-is_frame_address-clause-fault
returns-then-not-is_frame_address-clause-fault c = λ f s.
    let at = ap (λ (v : PipelineData). v.base) c.self.view_is ∙ s.base_is in
    rw at (address_refused c.args.part.now f.base (rw (← at) (sym c.is_frame_address.ensures ∙ c.if-not-is_frame_address.true))
    ∙ copy_asks c.args.part.now f.command f.base f.source (rw (← s.command_is, ← s.source_is) (sym c.may_copy.ensures ∙ c.if-not-may_copy.false)))

pub put-requires-clause-address : goal.put-requires-clause-address
put-requires-clause-address c = has_address c.args.part.now c.self.inside.base (sym c.is_frame_address.ensures ∙ c.if-not-is_frame_address.false)

pub returns-clause-put : goal.returns-clause-put
returns-clause-put c = λ f s.
    let at = ap (λ (v : PipelineData). v.base) c.self.view_is ∙ s.base_is in
    let some : (is_mfw c.args.self.now.command && is_some c.args.self.now.source) ≡ true = sym c.may_copy.ensures ∙ c.if-not-may_copy.false in
    let has : is_some c.args.self.now.source ≡ true = (and_parts _ _ some).1 in
    let kept = source_is c.self.inside.has_source c.self.inside.source.items c.args.self.now.source (ap (λ (v : PipelineData). v.source) c.self.view_is) has in
    put_copy f.base c.self.inside.base f.source c.deref.result.now (frame_at c.args.part.now c.args.memory.now) (frame_at c.args.part.now c.put.new.self) at
    (sym s.source_is ∙ rw c.deref.ensures.value kept) c.put.ensures.put

pub returns-clause-fault : goal.returns-clause-fault
returns-clause-fault c = λ f s.
    let at = ap (λ (v : PipelineData). v.base) c.self.view_is ∙ s.base_is in
    let t : is_frame_address c.args.part.now c.self.inside.base ≡ true = sym c.is_frame_address.ensures ∙ c.if-not-is_frame_address.false in
    address_allowed c.args.part.now f.base (rw (← at) t)
    ∙ copy_asks c.args.part.now f.command f.base f.source (rw (← s.command_is, ← s.source_is) (sym c.may_copy.ensures ∙ c.if-not-may_copy.false))

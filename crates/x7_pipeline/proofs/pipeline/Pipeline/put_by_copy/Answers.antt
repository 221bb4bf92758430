use Rattle.std.proofs.Common.{◌∙◌, sym}
use Rattle.x7_pipeline.proofs.SlotLemmas.{has_address}
use Rattle.x7_pipeline.proofs.pipeline.Pipeline.put_by_copy.Goals as goal

pub returns-then-is_frame_address-clause-address : goal.returns-then-is_frame_address-clause-address
returns-then-is_frame_address-clause-address c = has_address c.args.part.now c.self.inside.base (sym c.is_frame_address.ensures ∙ c.if-is_frame_address.true)

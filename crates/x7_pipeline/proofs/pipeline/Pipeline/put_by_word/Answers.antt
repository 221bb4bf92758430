use Rattle.std.proofs.Common.{◌-◌}
use Rattle.x7_pipeline.proofs.SavedLemmas.{slot_named}
use Rattle.x7_pipeline.proofs.pipeline.Pipeline.put_by_word.Goals as goal

pub returns-clause-address : goal.returns-clause-address
returns-clause-address c = slot_named c.args.part.now c.self.inside.base (c.self.inside.frame_count - 1) c.slot_at.result c.address_at_slot.result c.slot_at.ensures c.address_at_slot.ensures

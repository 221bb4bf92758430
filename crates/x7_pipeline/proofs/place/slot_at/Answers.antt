use Rattle.std.proofs.Common.{sym}
use Rattle.x7_pipeline.proofs.SlotLemmas.{no_slot, is_base_so}
use Rattle.x7_pipeline.proofs.place.slot_at.Goals as goal

pub returns-else-is_address : goal.returns-else-is_address
returns-else-is_address c = no_slot c.args.part.now c.args.far c.args.n (sym (rw c.if-is_address.false at (is_base_so c.args.part.now c.args.far c.is_address.result c.is_address.ensures.listed)))

use Rattle.std.proofs.Common.{sym, arith}
use Rattle.x7_pipeline.proofs.SlotLemmas.{few_slots, no_slots, is_base_so}
use Rattle.x7_pipeline.proofs.place.slot_count.Goals as goal

pub returns-then-is_address-clause-most : goal.returns-then-is_address-clause-most
returns-then-is_address-clause-most c = let few = few_slots c.args.part.now c.args.far c.frames-frames.ensures.part in let is = c.slots_from.ensures in omega arith

pub returns-else-is_address-clause-value : goal.returns-else-is_address-clause-value
returns-else-is_address-clause-value c = sym (no_slots c.args.part.now c.args.far (sym (rw c.if-is_address.false at (is_base_so c.args.part.now c.args.far c.is_address.result c.is_address.ensures.listed))))

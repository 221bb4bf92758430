use Rattle.x7_boot.proofs.ImageLemmas.{free_slots_are}
use Rattle.x7_boot.proofs.flash_image.free_slots.Goals as goal

pub returns-clause-items : goal.returns-clause-items
returns-clause-items c = free_slots_are c.args.start c.slot.result c.in_ok-repeat.field-0.items c.slot.ensures c.in_ok-repeat.ensures.items

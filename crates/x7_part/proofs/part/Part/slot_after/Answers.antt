use Rattle.x7_part.proofs.part.Part.slot_after.Goals as goal

pub slot_after-requires-clause-address : goal.slot_after-requires-clause-address
slot_after-requires-clause-address c = rw c.table.ensures.addresses c.requires.address

pub returns : goal.returns
returns c = rw (← c.table.ensures.slots) c.slot_after.ensures

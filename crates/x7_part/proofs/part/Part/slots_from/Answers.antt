use Rattle.x7_part.proofs.part.Part.slots_from.Goals as goal

pub slots_from-requires-clause-address : goal.slots_from-requires-clause-address
slots_from-requires-clause-address c = rw c.table.ensures.addresses c.requires.address

pub returns : goal.returns
returns c = rw (← c.table.ensures.slots) c.slots_from.ensures

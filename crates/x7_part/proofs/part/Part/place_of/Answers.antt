use Rattle.x7_part.proofs.part.Part.place_of.Goals as goal

pub place_of-requires-clause-address : goal.place_of-requires-clause-address
place_of-requires-clause-address c = rw c.table.ensures.addresses c.requires.address

pub returns-clause-within : goal.returns-clause-within
returns-clause-within c = rw (← c.table.ensures.slots) c.place_of.ensures.within

pub returns-clause-slots : goal.returns-clause-slots
returns-clause-slots c = rw (← c.table.ensures.slots) c.place_of.ensures.slots

pub returns-clause-few_slots : goal.returns-clause-few_slots
returns-clause-few_slots c = rw (← c.table.ensures.slots) c.table.ensures.are_columns.slots

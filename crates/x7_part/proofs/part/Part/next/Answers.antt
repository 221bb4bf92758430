use Rattle.x7_part.proofs.part.Part.next.Goals as goal

pub returns-clause-found : goal.returns-clause-found
returns-clause-found c = rw (← c.table.ensures.addresses) c.next_of.ensures.found

pub returns-clause-last_or_absent : goal.returns-clause-last_or_absent
returns-clause-last_or_absent c = rw (← c.table.ensures.addresses) c.next_of.ensures.last_or_absent

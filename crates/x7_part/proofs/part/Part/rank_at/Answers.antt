use Rattle.x7_part.proofs.part.Part.rank_at.Goals as goal

pub returns-clause-found : goal.returns-clause-found
returns-clause-found c = let of = c.table.ensures in rw (← of.addresses, ← of.slots) c.rank_at.ensures.found

pub returns-clause-no_frame : goal.returns-clause-no_frame
returns-clause-no_frame c = rw (← c.table.ensures.slots) c.rank_at.ensures.no_frame

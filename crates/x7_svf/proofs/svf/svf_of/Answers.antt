use Rattle.x7_svf.proofs.svf.svf_of.Goals as goal

pub returns-clause-statements : goal.returns-clause-statements
returns-clause-statements c = rw (c.extend_from_slice.ensures.items, c.new-copy.ensures.items, c.if-is_err.ensures.negation) at c.svf_from.ensures.statements

pub returns-clause-fault : goal.returns-clause-fault
returns-clause-fault c = rw (c.extend_from_slice.ensures.items, c.new-copy.ensures.items, c.if-is_err.ensures.negation) at c.svf_from.ensures.fault

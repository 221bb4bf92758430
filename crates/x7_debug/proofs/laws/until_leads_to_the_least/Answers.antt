use Rattle.std.proofs.Common.{arith}
use Rattle.x7_debug.specs.Position.{last_of}
use Rattle.x7_debug.proofs.LeastLemmas.{until_stopped}
use Rattle.x7_debug.proofs.PositionLemmas.{until_last, until_there}
use Rattle.x7_debug.proofs.laws.until_leads_to_the_least.Goals as goal

pub returns-clause-holds : goal.returns-clause-holds
returns-clause-holds c = λ part stream stop at n l. until_there part stream stop at n l.after l.within l.holds l.before

pub returns-clause-holds_nowhere : goal.returns-clause-holds_nowhere
returns-clause-holds_nowhere c = λ part stream stop at within none. until_last part stream stop at (last_of part stream) (omega arith) (omega arith) within none

pub returns-clause-stopped : goal.returns-clause-stopped
returns-clause-stopped c = until_stopped

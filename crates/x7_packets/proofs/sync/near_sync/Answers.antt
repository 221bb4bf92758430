use Rattle.std.proofs.Common.{arith}
use Rattle.x7_packets.proofs.sync.near_sync.Goals as goal

pub returns-in-Some-clause-first : goal.returns-in-Some-clause-first
returns-in-Some-clause-first c = record { here = c.in-Some.ensures.1; first = λ k l o. c.in-Some.ensures.0.before k (omega arith) l o }

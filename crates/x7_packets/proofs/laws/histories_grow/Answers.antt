use Rattle.x7_packets.proofs.GrowthLemmas.{byte_enters, prefix_of, newer_of, placed_of}
use Rattle.x7_packets.proofs.laws.histories_grow.Goals as goal

pub returns-clause-access : goal.returns-clause-access
returns-clause-access c = byte_enters

pub returns-clause-newer : goal.returns-clause-newer
returns-clause-newer c = newer_of

pub returns-clause-prefix : goal.returns-clause-prefix
returns-clause-prefix c = prefix_of

pub returns-clause-placed : goal.returns-clause-placed
returns-clause-placed c = placed_of

use Rattle.x7_packets.proofs.GapLemmas.{alike_prefixes, history_passed, synced_passed}
use Rattle.x7_packets.proofs.appended.gaps_are_passed.Goals as goal

pub returns-clause-history : goal.returns-clause-history
returns-clause-history c = history_passed

pub returns-clause-synced : goal.returns-clause-synced
returns-clause-synced c = synced_passed

pub returns-clause-alike : goal.returns-clause-alike
returns-clause-alike c = alike_prefixes

use Rattle.x7_packets.proofs.AppendedLemmas.{ends_after, history_after, prefix_after, read_after, tail_after}
use Rattle.x7_packets.proofs.appended.streams_append.Goals as goal

pub returns-clause-reading : goal.returns-clause-reading
returns-clause-reading c = read_after

pub returns-clause-history : goal.returns-clause-history
returns-clause-history c = history_after

pub returns-clause-synced : goal.returns-clause-synced
returns-clause-synced c = ends_after

pub returns-clause-tail : goal.returns-clause-tail
returns-clause-tail c = tail_after

pub returns-clause-prefixes : goal.returns-clause-prefixes
returns-clause-prefixes c = λ bytes more k f m. prefix_after bytes more f m k

use Rattle.std.proofs.Common.{◌-◌}
use Rattle.memchr.specs.Find.{Nowhere, OccursAt}
use Rattle.x7_packets.specs.SyncWord.{sync_bytes}
use Rattle.x7_packets.proofs.fast.places.first_sync.Given as goal

abbrev pub invariant-loop-at : goal.invariant-loop-at
invariant-loop-at l = Nowhere (OccursAt l.bytes sync_bytes) 0 l.at

abbrev pub decreases-loop-at : goal.decreases-loop-at
decreases-loop-at l = l.last - l.at

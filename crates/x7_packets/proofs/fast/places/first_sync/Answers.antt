use Rattle.std.proofs.Common.{◌+◌, arith}
use Rattle.x7_packets.proofs.PlaceLemmas.{found_after, last_places, nowhere_then}
use Rattle.x7_packets.proofs.fast.places.first_sync.Goals as goal

pub loop-at-init : goal.loop-at-init
loop-at-init c k low high = absurd (omega (arith, high))

pub loop-at-preserved : goal.loop-at-preserved
loop-at-preserved c = nowhere_then 0 c.loop-at.at (c.loop-at.at + 32) c.loop-at.invariant c.in-None.ensures

pub returns-in-Some : goal.returns-in-Some
returns-in-Some c = found_after c.args.bytes.now c.loop-at.at (c.loop-at.at + 32) c.in-Some.place c.loop-at.invariant c.in-Some.ensures

pub returns : goal.returns
returns c = last_places c.args.bytes.now c.loop-at.at _ _ c.loop-at.invariant (omega arith) (omega arith) c.first_of_places-2.ensures

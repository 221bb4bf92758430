use Rattle.x7_packets.proofs.PlaceLemmas.{ends_seen}
use Rattle.x7_packets.proofs.fast.places.end_bits.Goals as goal

pub returns : goal.returns
returns c k l o = (c.top_bits.ensures k).1 (ends_seen c.args.bytes.now _ _ _ _ _ c.args.at k c.load.ensures c.load-2.ensures c.equal_to.ensures c.equal_to-2.ensures c.both.ensures l o)

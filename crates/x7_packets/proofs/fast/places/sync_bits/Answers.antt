use Rattle.x7_packets.proofs.PlaceLemmas.{sync_lanes, sync_seen, sync_there}
use Rattle.x7_packets.proofs.fast.places.sync_bits.Goals as goal

pub returns-clause-set_means_found : goal.returns-clause-set_means_found
returns-clause-set_means_found c k h = sync_there c.args.bytes.now _ c.args.at k c.requires
    (sync_lanes c.args.bytes.now c.args.at _ _ _ _ _ _ _ _ _ _ _ c.load.ensures c.load-2.ensures c.load-3.ensures c.load-4.ensures c.equal_to.ensures c.equal_to-2.ensures c.equal_to-3.ensures c.equal_to-4.ensures c.both-first_two.ensures c.both-last_two.ensures c.both.ensures)
    ((c.top_bits.ensures k).0 h)

pub returns-clause-found_means_set : goal.returns-clause-found_means_set
returns-clause-found_means_set c k l o = (c.top_bits.ensures k).1 (sync_seen c.args.bytes.now _ c.args.at k
    (sync_lanes c.args.bytes.now c.args.at _ _ _ _ _ _ _ _ _ _ _ c.load.ensures c.load-2.ensures c.load-3.ensures c.load-4.ensures c.equal_to.ensures c.equal_to-2.ensures c.equal_to-3.ensures c.equal_to-4.ensures c.both-first_two.ensures c.both-last_two.ensures c.both.ensures)
    l o)

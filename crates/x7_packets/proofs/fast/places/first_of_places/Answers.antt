use Rattle.x7_packets.proofs.PlaceLemmas.{first_set, none_set}
use Rattle.x7_packets.proofs.fast.places.first_of_places.Goals as goal

pub returns-then-end_bits-eq0 : goal.returns-then-end_bits-eq0
returns-then-end_bits-eq0 c = none_set c.args.bytes.now c.args.at _ c.end_bits.ensures c.if-end_bits-eq0.true

pub returns-then-bits-eq0 : goal.returns-then-bits-eq0
returns-then-bits-eq0 c = none_set c.args.bytes.now c.args.at _ c.sync_bits-bits.ensures.found_means_set c.if-bits-eq0.true

pub returns : goal.returns
returns c = first_set c.args.bytes.now c.args.at _ _ c.sync_bits-bits.ensures.set_means_found c.sync_bits-bits.ensures.found_means_set c.lowest_bit.ensures.set c.lowest_bit.ensures.none_below

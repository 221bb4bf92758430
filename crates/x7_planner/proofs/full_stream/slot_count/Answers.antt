use Rattle.std.proofs.Common.{refl, sym}
use Rattle.x7_part.specs.Part.{frame_words}
use Rattle.x7_planner.proofs.SlotLemmas.{few_slots}
use Rattle.x7_planner.proofs.full_stream.slot_count.Goals as goal

pub returns-clause-count : goal.returns-clause-count
returns-clause-count c = (few_slots c.args.part.now c.first_address.result (frame_words c.args.part.now) c.slots_from.result c.first_address.ensures.part (sym c.first_address.ensures.first) refl c.slots_from.ensures).count

pub returns-clause-most : goal.returns-clause-most
returns-clause-most c = (few_slots c.args.part.now c.first_address.result (frame_words c.args.part.now) c.slots_from.result c.first_address.ensures.part (sym c.first_address.ensures.first) refl c.slots_from.ensures).most

pub returns-clause-most_words : goal.returns-clause-most_words
returns-clause-most_words c = (few_slots c.args.part.now c.first_address.result (frame_words c.args.part.now) c.slots_from.result c.first_address.ensures.part (sym c.first_address.ensures.first) refl c.slots_from.ensures).words

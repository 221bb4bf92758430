use Rattle.x7_part.proofs.SlotLemmas.{slots_split, slots_first, slots_number, slots_all, slots_rows, among_slots, slots_next}
use Rattle.x7_part.proofs.laws.slots_follow_the_addresses.Goals as goal

pub returns-clause-split : goal.returns-clause-split
returns-clause-split c = slots_split

pub returns-clause-first : goal.returns-clause-first
returns-clause-first c = slots_first

pub returns-clause-length : goal.returns-clause-length
returns-clause-length c = slots_number

pub returns-clause-all_from_first : goal.returns-clause-all_from_first
returns-clause-all_from_first c = slots_all

pub returns-clause-rows : goal.returns-clause-rows
returns-clause-rows c = λ part before after r e. slots_rows part.field_widths part.rows before after r e

pub returns-clause-frames : goal.returns-clause-frames
returns-clause-frames c = λ part. among_slots part.field_widths part.rows

pub returns-clause-next : goal.returns-clause-next
returns-clause-next c = slots_next

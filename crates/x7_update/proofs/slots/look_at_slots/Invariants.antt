use Rattle.x7_update.specs.Slots.{SlotsAmong}
use Rattle.x7_update.proofs.slots.look_at_slots.Given as goal

abbrev pub invariant-loop-slot : goal.invariant-loop-slot
invariant-loop-slot l = SlotsAmong l.first_sector l.slot l.slots

use Rattle.std.proofs.Common.{◌≡◌, ◌+◌, ◌*◌, ◌<◌, ◌≤◌, ℕ, get_or}
use Rattle.x7_packets.specs.FlashSlot.{flash_slot_size}
use Rattle.x7_update.proofs.slots.slot_difference.Given as goal

abbrev pub invariant-loop-i : goal.invariant-loop-i
invariant-loop-i l = (j : ℕ) → 4 ≤ j → j < l.i → get_or l.first_sector (flash_slot_size * l.slot + j) 0 ≡ get_or l.wanted j 0

use Rattle.std.proofs.Common.{ℕ, ◌<◌, IfErr, rules}
use Rattle.x7_packets.specs.FlashSlot.{flash_slot_count}
use Rattle.x7_update.specs.Fault.{IsBadSlotAt, IsGoodSlot}
use Rattle.x7_update.proofs.StepLemmas.{if_err_map}
use Rattle.x7_update.proofs.SlotLemmas.{so_far_good}
use Rattle.x7_update.proofs.slots.look_at_slots.Goals as goal

pub returns-in_err-slots-clause-bad_slot : goal.returns-in_err-slots-clause-bad_slot
returns-in_err-slots-clause-bad_slot c =
    let first = c.args.first_sector.now in
    let Bad : ℕ → Type 0 = λ place. (slot : ℕ) × (slot < flash_slot_count) × ((earlier : ℕ) → earlier < slot → IsGoodSlot first earlier) × IsBadSlotAt first slot place in
    let bad : IfErr c.look_at_slot.result Bad =
    if_err_map (IsBadSlotAt first c.loop-slot.slot) Bad c.look_at_slot.result (λ place is. (c.loop-slot.slot, c.loop-slot-test.true, so_far_good first c.loop-slot.slot c.loop-slot.slots c.loop-slot.invariant, is)) c.look_at_slot.ensures.bad_slot in
    search rules

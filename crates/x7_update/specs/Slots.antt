-- What a look at the first sector of a flash finds (this project's choice).
use Rattle.std.specs.Prelude.{◌≡◌, ◌≢◌, ℕ, suc, ◌<◌, ◌≤◌, true, List, length, Option, None, Some}
use Rattle.x7_words.specs.Flash.{FlashState}
use Rattle.x7_packets.specs.FlashSlot.{sector_size, flash_slot_count}
use Rattle.x7_update.specs.Layout.{CanStandAt, IsUpdatableSize, HasSlots, IsFree, IsNextFreeSlot, IsOpen, LeadsToUpdate, first_slot, free_switch, open_switch, switch_of, update_place}
use Rattle.x7_update.specs.Fault.{OpensAgain}
use Rattle.x7_update.specs.declared.slots.Slots.{Slots}
use Rattle.x7_update.specs.declared.slots.UpdateTarget.{UpdateTarget}

-- `first_sector` has the size of a sector, and `wanted` is its `first_slot`: the bytes of an open slot that leads to U,
-- which each slot has to have after its switch word
pub record HasFirstSlot (first_sector wanted : List ℕ) : Type 0 where
  pub whole : length first_sector ≡ sector_size
  pub is : wanted ≡ first_slot first_sector

-- of the first `count` slots: for a number, the slot of this number is one of them, and open; for none, no slot among
-- them is open
abbrev pub OpenAmong : List ℕ → ℕ → Option ℕ → Type 0
OpenAmong flash count None = (slot : ℕ) → slot < count → switch_of flash slot ≢ open_switch
OpenAmong flash count (Some slot) = (slot < count) × IsOpen flash slot

-- of the first `count` slots of a flash each leads to the update's place, at most one is open, `open_slot` or none, and
-- `next` is the first from which on all of them are free, or `count` where the last of them isn't free
pub record SlotsAmong (flash : List ℕ) (count : ℕ) (slots : Slots) : Type 0 where
  pub leads : (slot : ℕ) → slot < count → LeadsToUpdate flash slot
  pub once : (slot : ℕ) → slot < count → OpensAgain flash slot → ⊥
  pub opens : OpenAmong flash count slots.open_slot
  pub within : slots.next ≤ count
  pub free : (slot : ℕ) → slots.next ≤ slot → slot < count → IsFree flash slot
  pub first : (slot : ℕ) → suc slot ≡ slots.next → switch_of flash slot ≢ free_switch

-- `target` says where an update goes in a flash of `size` bytes. The size is good, and the first sector is slots as the
-- layout has them. The target has the update's place that they lead to, the open slot or none, and the next free one.
pub record IsTargetIn (size : ℕ) (flash : List ℕ) (target : UpdateTarget) : Type 0 where
  pub sized : IsUpdatableSize size
  pub has : HasSlots size flash
  pub update : target.place ≡ update_place flash
  pub opens : OpenAmong flash flash_slot_count target.slots.open_slot
  pub next : IsNextFreeSlot flash target.slots.next

-- a slot of the first sector, or none
abbrev pub WithinSlots : Option ℕ → Type 0
WithinSlots None = Unit {0}
WithinSlots (Some slot) = slot < flash_slot_count

-- the size is good, an update can stand at the target's place, and the target's slots are of the first sector
pub record TargetFits (size : ℕ) (target : UpdateTarget) : Type 0 where
  pub sized : IsUpdatableSize size
  pub place : CanStandAt size target.place
  pub next : target.slots.next < flash_slot_count
  pub opens : WithinSlots target.slots.open_slot

-- a flash is attached, and its update goes to this target, which fits its size
pub record HasTarget (state : FlashState) (target : UpdateTarget) : Type 0 where
  pub attached : state.attached ≡ true
  pub fits : TargetFits state.extent target

-- What an update leaves of a flash, and what a power loss may leave of it (this project's choice).
use Rattle.std.specs.Prelude.{◌≡◌, ℕ, ◌+◌, ◌-◌, ◌*◌, ◌%◌, ◌<◌, ◌≤◌, List, ◌++◌, length, get_or, take, replicate}
use Rattle.x7_words.specs.Flash.{erased_byte, replaced}
use Rattle.x7_words.specs.Word.{AreBytes}
use Rattle.x7_packets.specs.FlashSlot.{sector_size, flash_slot_size, flash_slot_count}
use Rattle.x7_update.specs.Layout.{IsUpdatable, HasNoOpenSlot, IsNextFreeSlot, IsOpen, open_switch, spent_switch, switch_size, switch_of, update_place}

-- the flash with this switch word, four bytes, in a slot
abbrev pub with_switch_word : ℕ → List ℕ → List ℕ → List ℕ
with_switch_word slot word flash = replaced (flash_slot_size * slot) word flash

-- the flash with this stream at `place`, and FF from the stream's end to the flash's end
abbrev pub with_stream : ℕ → List ℕ → List ℕ → List ℕ
with_stream place stream flash = take place flash ++ (stream ++ replicate (length flash - (place + length stream)) erased_byte)

-- the flash with its open slot spent, if it has one
pub data SpendsOpenSlot (flash spent : List ℕ) : Type 0 where
  already : HasNoOpenSlot flash → spent ≡ flash → SpendsOpenSlot flash spent
  spends : (slot : ℕ) → slot < flash_slot_count → IsOpen flash slot → spent ≡ with_switch_word slot spent_switch flash → SpendsOpenSlot flash spent

-- The flash after an update with a stream: its open slot, if it has one, is spent, the stream, which fits in the flash,
-- stands at the update's place with FF after it, and the first slot from which on all are free is open.
pub record IsAfterUpdate (stream flash after : List ℕ) : Type 0 where
  pub spent : List ℕ
  pub is_spent : SpendsOpenSlot flash spent
  pub next : ℕ
  pub is_next : IsNextFreeSlot flash next
  pub fits : update_place flash + length stream ≤ length flash
  pub is : after ≡ with_switch_word next open_switch (with_stream (update_place flash) stream spent)

-- A flash as it may be left in an update, after its open slot, if it had one, was spent and before the next is opened.
-- Its size stays, and no slot is open. Each slot has after its switch word the bytes that it had, and each switch word
-- but that of the slot that was open and the next one's stays. The bytes from the second sector up to the update's
-- place stay, and from there on there may be anything.
pub record IsBetweenSlots (flash found : List ℕ) : Type 0 where
  pub size : length found ≡ length flash
  pub slots : (i : ℕ) → i < sector_size → switch_size ≤ i % flash_slot_size → get_or found i 0 ≡ get_or flash i 0
  pub none_open : HasNoOpenSlot found
  pub switches : (slot : ℕ) → slot < flash_slot_count → (IsOpen flash slot → ⊥) → (IsNextFreeSlot flash slot → ⊥) → switch_of found slot ≡ switch_of flash slot
  pub golden : (i : ℕ) → sector_size ≤ i → i < update_place flash → get_or found i 0 ≡ get_or flash i 0

-- What a power loss may leave of a flash that is being updated with a stream: the flash as it was; and, where it can be
-- updated, a flash of bytes that is between slots, or the flash after the update.
pub data MayBeLeft (stream flash found : List ℕ) : Type 0 where
  untouched : found ≡ flash → MayBeLeft stream flash found
  between : IsUpdatable flash → AreBytes found → IsBetweenSlots flash found → MayBeLeft stream flash found
  after : IsUpdatable flash → IsAfterUpdate stream flash found → MayBeLeft stream flash found

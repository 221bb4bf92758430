-- The layout of a flash that can be updated (UG470, MultiBoot; the layout is this project's choice).
--
--     place     what stands there
--     0         2,048 slots of 32 bytes: a switch word, and then the words that lead a device to the update's place U
--     65,536    the golden stream
--     U         the update stream, and FF after it
--
-- A device takes the one slot whose switch word is the sync word: that slot is open. A slot whose switch word is
-- FFFFFFFF is free, and one with any other is spent.
use Rattle.std.specs.Prelude.{◌≡◌, ◌≢◌, ℕ, suc, ◌+◌, ◌-◌, ◌*◌, ◌%◌, ◌<◌, ◌≤◌, List, [], ◌∷◌, length, get_or}
use Rattle.x7_words.specs.Flash.{flash_limit}
use Rattle.x7_words.specs.Word.{word_of_bytes}
use Rattle.x7_packets.specs.FlashSlot.{flash_slot, sector_size, flash_slot_size, flash_slot_count}
use Rattle.x7_packets.specs.SyncWord.{sync_bytes}

-- how many bytes a switch word has
abbrev pub switch_size : ℕ
switch_size = 4

-- the four bytes from `place` on; past the flash's end each counts as 0
abbrev pub four_at : List ℕ → ℕ → List ℕ
four_at flash place = get_or flash place 0 ∷ get_or flash (place + 1) 0 ∷ get_or flash (place + 2) 0 ∷ get_or flash (place + 3) 0 ∷ []

-- the switch word of a slot, by its bytes
abbrev pub switch_of : List ℕ → ℕ → List ℕ
switch_of flash slot = four_at flash (flash_slot_size * slot)

-- the switch word of an open slot: the sync word
abbrev pub open_switch : List ℕ
open_switch = sync_bytes

-- the switch word of a free slot: a dummy word
abbrev pub free_switch : List ℕ
free_switch = 0xFF ∷ 0xFF ∷ 0xFF ∷ 0xFF ∷ []

-- the switch word of a spent slot, as an update leaves it
abbrev pub spent_switch : List ℕ
spent_switch = 0 ∷ 0 ∷ 0 ∷ 0 ∷ []

-- where in a slot its start address stands, in bytes from the slot's first
abbrev pub start_word_offset : ℕ
start_word_offset = 12

-- U, the update's place in bytes, which is the start address of the first slot
abbrev pub update_place : List ℕ → ℕ
update_place flash = word_of_bytes (four_at flash start_word_offset)

-- the bytes of an open slot that leads to U; of a flash that can be updated each slot has all but the first four of
-- them, after its switch word
abbrev pub first_slot : List ℕ → List ℕ
first_slot flash = flash_slot open_switch (four_at flash start_word_offset)

-- `size`, in bytes, is one of a flash that can be updated: whole sectors, two at least, and `flash_limit` at most
pub record IsUpdatableSize (size : ℕ) : Type 0 where
  pub whole : size % sector_size ≡ 0
  pub least : 2 * sector_size ≤ size
  pub most : size ≤ flash_limit

-- a place at which an update may stand in a flash of `size` bytes; at the flash's end only one of no bytes fits
pub record CanStandAt (size place : ℕ) : Type 0 where
  pub whole : place % sector_size ≡ 0
  pub least : 2 * sector_size ≤ place
  pub most : place ≤ size

-- a slot of the flash leads to U: after its switch word it has the bytes of `first_slot`
abbrev pub LeadsToUpdate : List ℕ → ℕ → Type 0
LeadsToUpdate flash slot = (i : ℕ) → switch_size ≤ i → i < flash_slot_size → get_or flash (flash_slot_size * slot + i) 0 ≡ get_or (first_slot flash) i 0

-- a slot of the flash is open
abbrev pub IsOpen : List ℕ → ℕ → Type 0
IsOpen flash slot = switch_of flash slot ≡ open_switch

-- a slot of the flash is free
abbrev pub IsFree : List ℕ → ℕ → Type 0
IsFree flash slot = switch_of flash slot ≡ free_switch

-- The first sector of a flash of a size is slots that all lead to one U, a place at which an update can stand. At most
-- one of them is open, and the last one is free.
pub record HasSlots (size : ℕ) (flash : List ℕ) : Type 0 where
  pub place : CanStandAt size (update_place flash)
  pub leads : (slot : ℕ) → slot < flash_slot_count → LeadsToUpdate flash slot
  pub one_open : (slot other : ℕ) → slot < flash_slot_count → other < flash_slot_count → IsOpen flash slot → IsOpen flash other → slot ≡ other
  pub last_free : IsFree flash (flash_slot_count - 1)

-- a flash can be updated: its size and its slots are those of the layout
pub record IsUpdatable (flash : List ℕ) : Type 0 where
  pub size : IsUpdatableSize (length flash)
  pub slots : HasSlots (length flash) flash

-- no slot of the flash is open
abbrev pub HasNoOpenSlot : List ℕ → Type 0
HasNoOpenSlot flash = (slot : ℕ) → slot < flash_slot_count → switch_of flash slot ≢ open_switch

-- the slot that the next update opens: the first from which on all are free
pub record IsNextFreeSlot (flash : List ℕ) (next : ℕ) : Type 0 where
  pub within : next < flash_slot_count
  pub free : (slot : ℕ) → next ≤ slot → slot < flash_slot_count → IsFree flash slot
  pub first : (slot : ℕ) → suc slot ≡ next → switch_of flash slot ≢ free_switch

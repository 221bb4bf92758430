-- Why an update is refused, and the place that shows that a flash can't be updated (this project's choice).
use Rattle.std.specs.Prelude.{◌≡◌, ◌≢◌, ℕ, ◌+◌, ◌-◌, ◌*◌, ◌<◌, ◌≤◌, ◌⊎◌, true, false, List, length, get_or, None, Some}
use Rattle.x7_words.specs.Flash.{FlashFails, FlashState, IfKnown, WriteFails}
use Rattle.x7_packets.specs.FlashSlot.{flash_slot_size, flash_slot_count}
use Rattle.x7_update.specs.Layout.{CanStandAt, IsUpdatable, IsUpdatableSize, IsFree, IsOpen, LeadsToUpdate, first_slot, start_word_offset, switch_size, update_place}
use Rattle.x7_update.specs.declared.fault.UpdateFault.{UpdateFault}
use Rattle.x7_update.specs.declared.fault.UpdateFault.TheVariants.{Differs, Failed, NoLayout, NoMemory, TooLong}

-- the first place of a slot, after its switch word, at which the slot differs from what it has to be
pub record DiffersAt (flash : List ℕ) (slot place : ℕ) : Type 0 where
  pub i : ℕ
  pub after_switch : switch_size ≤ i
  pub within : i < flash_slot_size
  pub is : place ≡ flash_slot_size * slot + i
  pub differs : get_or flash place 0 ≢ get_or (first_slot flash) i 0
  pub first : (j : ℕ) → switch_size ≤ j → j < i → get_or flash (flash_slot_size * slot + j) 0 ≡ get_or (first_slot flash) j 0

-- a slot is open, and so is one before it
pub record OpensAgain (flash : List ℕ) (slot : ℕ) : Type 0 where
  pub other : ℕ
  pub before : other < slot
  pub first : IsOpen flash other
  pub second : IsOpen flash slot

-- a slot leads to the update's place, and isn't open where one before it is
abbrev pub IsGoodSlot : List ℕ → ℕ → Type 0
IsGoodSlot flash slot = LeadsToUpdate flash slot × (OpensAgain flash slot → ⊥)

-- why a slot isn't as the layout has it, and the place that shows it: the slot doesn't lead to the update's place
-- (where it differs), or is open as one before it is (the slot's place)
abbrev pub IsBadSlotAt : List ℕ → ℕ → ℕ → Type 0
IsBadSlotAt flash slot place = DiffersAt flash slot place ⊎ (LeadsToUpdate flash slot × OpensAgain flash slot × (place ≡ flash_slot_size * slot))

-- the size of a flash and its first slot are as the layout has them: the slot leads to a place at which an update can
-- stand
pub record HasGoodBeginning (size : ℕ) (flash : List ℕ) : Type 0 where
  pub sized : IsUpdatableSize size
  pub leads : LeadsToUpdate flash 0
  pub place : CanStandAt size (update_place flash)

-- The place that shows that a flash of a size can't be updated. The first of these lines that holds gives it. The size
-- is bad (the size); the first slot differs (there); the update's place is none where an update can stand (where the
-- first slot has it). A further slot is bad, the slots in their order; the last slot isn't free (its place).
pub data NoLayoutAt (size : ℕ) (flash : List ℕ) (place : ℕ) : Type 0 where
  bad_size : (IsUpdatableSize size → ⊥) → place ≡ size → NoLayoutAt size flash place
  bad_first : IsUpdatableSize size → DiffersAt flash 0 place → NoLayoutAt size flash place
  bad_place : IsUpdatableSize size → LeadsToUpdate flash 0 → (CanStandAt size (update_place flash) → ⊥) → place ≡ start_word_offset → NoLayoutAt size flash place
  bad_slot : HasGoodBeginning size flash → (slot : ℕ) → slot < flash_slot_count → ((earlier : ℕ) → earlier < slot → IsGoodSlot flash earlier)
      → IsBadSlotAt flash slot place → NoLayoutAt size flash place
  last_taken : HasGoodBeginning size flash → ((slot : ℕ) → slot < flash_slot_count → IsGoodSlot flash slot) → (IsFree flash (flash_slot_count - 1) → ⊥) → place ≡ flash_slot_size * (flash_slot_count - 1)
      → NoLayoutAt size flash place

-- the stream passes the end of a flash that can be updated
pub record IsTooLong (stream flash : List ℕ) : Type 0 where
  pub updatable : IsUpdatable flash
  pub passes : length flash < update_place flash + length stream

-- a flash can be updated, and the stream fits in it
pub record CanBeUpdatedWith (stream flash : List ℕ) : Type 0 where
  pub updatable : IsUpdatable flash
  pub fits : update_place flash + length stream ≤ length flash

-- the cause of each refusal
abbrev pub HasCause : List ℕ → FlashState → FlashState → UpdateFault → Type 0
-- a write failed: the count of write faults has risen, the flash's size is good, and where its bytes are known the
-- flash can be updated and the stream fits in it
HasCause stream old new (Failed true) = WriteFails old new × IsUpdatableSize new.extent × IfKnown old.bytes (CanBeUpdatedWith stream)
-- a read failed: the count of faults has risen, and the flash's size is good
HasCause stream old new (Failed false) = FlashFails old new × IsUpdatableSize new.extent
-- a flash whose bytes are known can be updated, and the stream doesn't fit in it
HasCause stream old new TooLong = IfKnown old.bytes (IsTooLong stream)
-- a flash whose bytes are known can't be updated, as the place shows
HasCause stream old new (NoLayout place) = IfKnown old.bytes (λ flash. NoLayoutAt (length flash) flash place)
-- the bytes aren't known; which byte was read in the place of which other one the calls say (`IsRefused`)
HasCause stream old new (Differs place wrote read) = old.bytes ≡ None
-- want of memory has no cause
HasCause stream old new NoMemory = Unit {0}

-- a refusal for this fault comes before the first write
abbrev pub IsEarly : UpdateFault → Type 0
IsEarly (Failed writing) = ⊥
IsEarly TooLong = Unit {0}
IsEarly (NoLayout place) = Unit {0}
IsEarly (Differs place wrote read) = ⊥
IsEarly NoMemory = Unit {0}

-- where memory is wanting the flash is as before: want of memory comes before anything of the flash is touched
abbrev pub UntouchedForWant : FlashState → FlashState → UpdateFault → Type 0
UntouchedForWant old new fault = fault ≡ NoMemory → new ≡ old

-- the flash is touched only where its size is good: else it is as before, and not even its first sector was read
abbrev pub UntouchedUnlessSized : FlashState → FlashState → Type 0
UntouchedUnlessSized old new = (IsUpdatableSize old.extent → ⊥) → new ≡ old

-- No fault but want of memory has a cause: the flash's bytes were known, it can be updated, the stream fits in it, and
-- no write and no read failed.
pub record HasNoCause (stream : List ℕ) (old new : FlashState) : Type 0 where
  pub flash : List ℕ
  pub known : old.bytes ≡ Some flash
  pub updatable : IsUpdatable flash
  pub fits : update_place flash + length stream ≤ length flash
  pub writes : WriteFails old new → ⊥
  pub reads : FlashFails old new → ⊥

-- What the steps of an update do to the flash, and what they compare (this project's choice).
use Rattle.std.specs.Prelude.{◌≡◌, ◌≢◌, ℕ, ◌+◌, ◌-◌, ◌*◌, ◌<◌, ◌≤◌, ◌⊎◌, IsTrue, List, length, get_or, Option, Some, None, nat_lt, if◌then◌else◌, true, false}
use Rattle.x7_words.specs.Flash.{erased_byte, names_asked, BecomesBytes, FlashFails, FlashState, OnlyReads, OnlyWrites, WriteFails}
use Rattle.x7_words.specs.FlashHistory.{FollowsCalls}
use Rattle.x7_packets.specs.FlashSlot.{sector_size, flash_slot_size, flash_slot_count}
use Rattle.x7_update.specs.After.{SpendsOpenSlot, IsBetweenSlots, with_switch_word, with_stream}
use Rattle.x7_update.specs.Layout.{CanStandAt, IsUpdatableSize, open_switch, switch_size, switch_of}
use Rattle.x7_update.specs.declared.fault.UpdateFault.{UpdateFault}
use Rattle.x7_update.specs.declared.fault.UpdateFault.TheVariants.{Differs, Failed, NoLayout, NoMemory, TooLong}

-- a flash's bytes that were known are still known, and in this relation to what they were; bytes that weren't known
-- still aren't
abbrev pub Becomes : FlashState → FlashState → (List ℕ → List ℕ → Type 0) → Type 0
Becomes old new Relates = BecomesBytes Relates old.bytes new.bytes

-- the flash is used: nothing changed but its bytes, its calls, and the counts of faults and of write faults, which don't
-- fall; and it was asked for no name
pub record OnlyUses (old new : FlashState) : Type 0 where
  pub extent : new.extent ≡ old.extent
  pub attached : new.attached ≡ old.attached
  pub names : names_asked new.calls ≡ names_asked old.calls
  pub absences : new.absences ≡ old.absences
  pub faults : old.faults ≤ new.faults
  pub write_faults : old.write_faults ≤ new.write_faults

-- a step that writes: the bytes follow its calls, and nothing else changed but the count of write faults, which doesn't
-- fall
pub record IsWriteStep (old new : FlashState) : Type 0 where
  pub follows : FollowsCalls old new
  pub only : OnlyWrites old new

-- a step that reads: the bytes stay and gave what its calls say, and nothing else changed but the count of faults, which
-- doesn't fall
pub record IsReadStep (old new : FlashState) : Type 0 where
  pub follows : FollowsCalls old new
  pub only : OnlyReads old new

-- the switch word of a slot can be written: the flash is attached, the slot is one of a first sector, and its switch
-- word is within the flash
pub record CanSwitch (state : FlashState) (slot : ℕ) : Type 0 where
  pub attached : state.attached ≡ true
  pub among : slot < flash_slot_count
  pub within : flash_slot_size * slot + switch_size ≤ state.extent

-- all from a place on can be written: the flash is attached and of a good size, and an update may stand at the place
pub record CanWriteFrom (state : FlashState) (place : ℕ) : Type 0 where
  pub attached : state.attached ≡ true
  pub size : IsUpdatableSize state.extent
  pub stands : CanStandAt state.extent place

-- nothing of the flash below the place has changed
pub record KeepsBelow (place : ℕ) (old found : List ℕ) : Type 0 where
  pub size : length found ≡ length old
  pub below : (i : ℕ) → i < place → get_or found i 0 ≡ get_or old i 0

-- from the place up to the end all is FF, and nothing below the place has changed
pub record ErasedTo (place end : ℕ) (old now : List ℕ) : Type 0 where
  pub size : length now ≡ length old
  pub below : (i : ℕ) → i < place → get_or now i 0 ≡ get_or old i 0
  pub ones : (i : ℕ) → place ≤ i → i < end → get_or now i 0 ≡ erased_byte

-- nothing of the flash has changed but, perhaps, the switch word of a slot, which isn't open
pub record OnlySwitch (slot : ℕ) (old found : List ℕ) : Type 0 where
  pub size : length found ≡ length old
  pub others : (i : ℕ) → (i < flash_slot_size * slot) ⊎ (flash_slot_size * slot + switch_size ≤ i) → get_or found i 0 ≡ get_or old i 0
  pub not_open : switch_of found slot ≢ open_switch

-- while an open slot is spent nothing has changed, or the slot isn't open
abbrev pub SpendingSlot : ℕ → List ℕ → List ℕ → Type 0
SpendingSlot slot old found = (found ≡ old) ⊎ OnlySwitch slot old found

-- while a free slot is opened the slot is open, and nothing else has changed, or it isn't open yet
abbrev pub OpeningSlot : ℕ → List ℕ → List ℕ → Type 0
OpeningSlot slot old found = (found ≡ with_switch_word slot open_switch old) ⊎ OnlySwitch slot old found

-- while the update is replaced nothing has changed, or no slot is open
abbrev pub ReplacingUpdate : List ℕ → List ℕ → Type 0
ReplacingUpdate old found = (found ≡ old) ⊎ IsBetweenSlots old found

-- the flash is as it was, but that the stream stands at its place, with FF after it
abbrev pub StreamStands : ℕ → List ℕ → List ℕ → List ℕ → Type 0
StreamStands place stream old now = now ≡ with_stream place stream old

-- the flash is as it was, but that its open slot is spent, and the stream stands at its place with FF after it
pub record UpdateReplaced (place : ℕ) (stream old now : List ℕ) : Type 0 where
  pub spent : List ℕ
  pub is_spent : SpendsOpenSlot old spent
  pub stands : StreamStands place stream spent now

-- the byte that is wanted at a place, where the stream stands at `stream_place`: the stream's, or FF after it
abbrev pub wanted_at : ℕ → List ℕ → ℕ → ℕ
wanted_at stream_place stream place = if nat_lt (place - stream_place) (length stream) then get_or stream (place - stream_place) 0 else erased_byte

-- each byte from the stream's place on is as it is wanted
abbrev pub HasWanted : ℕ → List ℕ → List ℕ → Type 0
HasWanted stream_place stream flash = (place : ℕ) → stream_place ≤ place → place < length flash → get_or flash place 0 ≡ wanted_at stream_place stream place

-- an update with a stream can be verified: the flash is attached and of a good size, the stream fits at its place, and
-- the buffer is of a sector's size
pub record CanVerify (state : FlashState) (stream_place : ℕ) (stream buffer : List ℕ) : Type 0 where
  pub attached : state.attached ≡ true
  pub size : IsUpdatableSize state.extent
  pub place : CanStandAt state.extent stream_place
  pub fits : stream_place + length stream ≤ state.extent
  pub buffer_is : length buffer ≡ sector_size

-- this many bytes of what was read from a place on are as they are wanted there
abbrev pub ReadsWantedTo : ℕ → List ℕ → ℕ → List ℕ → ℕ → Type 0
ReadsWantedTo stream_place stream place buffer count = (i : ℕ) → i < count → get_or buffer i 0 ≡ wanted_at stream_place stream (place + i)

-- each byte of what was read from a place on is as it is wanted there
abbrev pub ReadsWanted : ℕ → List ℕ → ℕ → List ℕ → Type 0
ReadsWanted stream_place stream place buffer = ReadsWantedTo stream_place stream place buffer (length buffer)

-- a byte of what was read from a place on is another than the one wanted there, and it is the first that is
abbrev pub IsWrong : ℕ → List ℕ → ℕ → List ℕ → UpdateFault → Type 0
IsWrong stream_place stream place buffer (Differs at wrote read) =
    (i : ℕ) × (i < length buffer) × (at ≡ place + i) × (wrote ≡ wanted_at stream_place stream at) × (read ≡ get_or buffer i 0) × (wrote ≢ read)
    × ReadsWantedTo stream_place stream place buffer i
IsWrong stream_place stream place buffer (Failed writing) = ⊥
IsWrong stream_place stream place buffer TooLong = ⊥
IsWrong stream_place stream place buffer (NoLayout at) = ⊥
IsWrong stream_place stream place buffer NoMemory = ⊥

-- a fault of a read or of a write was counted
abbrev pub CountsFault : FlashState → FlashState → UpdateFault → Type 0
CountsFault old new (Failed true) = WriteFails old new
CountsFault old new (Failed false) = FlashFails old new
CountsFault old new (Differs at wrote read) = Unit {0}
CountsFault old new TooLong = Unit {0}
CountsFault old new (NoLayout at) = Unit {0}
CountsFault old new NoMemory = Unit {0}

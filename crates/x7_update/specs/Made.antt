-- What a step of an update has called (this project's choice).
use Rattle.std.specs.Prelude.{◌≡◌, ◌≢◌, ℕ, ◌+◌, ◌<◌, ◌≤◌, ◌⊎◌, Bool, true, false, List, [], ◌∷◌, ◌++◌, length, get_or}
use Rattle.x7_packets.specs.FlashSlot.{sector_size}
use Rattle.x7_words.specs.declared.flash_call.FlashCall.{FlashCall}
use Rattle.x7_words.specs.declared.flash_call.FlashCall.TheVariants.{Read, ReadFailed, Erased, EraseFailed, Programmed, ProgramFailed}
use Rattle.x7_words.specs.FlashHistory.{FlashHistory, MayLeave, with_calls}
use Rattle.x7_update.specs.UpdateCalls.{HasRoom, calls_after, target_in, update_calls}
use Rattle.x7_update.specs.Layout.{HasSlots, IsUpdatableSize, update_place}
use Rattle.x7_words.specs.Word.{AreBytes}
use Rattle.x7_update.specs.After.{MayBeLeft}
use Rattle.x7_update.specs.Fault.{NoLayoutAt}
use Rattle.x7_update.specs.declared.fault.UpdateFault.{UpdateFault}
use Rattle.x7_update.specs.declared.fault.UpdateFault.TheVariants.{Differs, Failed, NoLayout, NoMemory, TooLong}

-- the write failed in the place of this one
abbrev pub FailsWrite : FlashCall → FlashCall → Type 0
FailsWrite (Erased sector) call = call ≡ EraseFailed sector
FailsWrite (Programmed place given) call = call ≡ ProgramFailed place given
FailsWrite next call = ⊥

-- the read failed in the place of this one
pub record FailsRead (next call : FlashCall) : Type 0 where
  pub place : ℕ
  pub wanted : List ℕ
  pub is_next : next ≡ Read place wanted
  pub is : call ≡ ReadFailed place (length wanted)

-- the read gave, in the place of this one, other bytes; the first that is another is at a place
pub record ReadsOther (next call : FlashCall) (at wrote read : ℕ) : Type 0 where
  pub place : ℕ
  pub wanted : List ℕ
  pub bytes : List ℕ
  pub is_next : next ≡ Read place wanted
  pub is : call ≡ Read place bytes
  pub long : length bytes ≡ length wanted
  pub i : ℕ
  pub within : i < length bytes
  pub there : at ≡ place + i
  pub wants : wrote ≡ get_or wanted i 0
  pub gave : read ≡ get_or bytes i 0
  pub differs : wrote ≢ read
  pub first : (k : ℕ) → k < i → get_or bytes k 0 ≡ get_or wanted k 0

-- the fault is that of this call, in the place of the plan's next one
abbrev pub Breaks : UpdateFault → FlashCall → FlashCall → Type 0
Breaks (Failed true) next call = FailsWrite next call
Breaks (Failed false) next call = FailsRead next call
Breaks (Differs at wrote read) next call = ReadsOther next call at wrote read
Breaks TooLong next call = ⊥
Breaks (NoLayout place) next call = ⊥
Breaks NoMemory next call = ⊥

-- the fault of a write that failed
abbrev pub write_failed : UpdateFault
write_failed = Failed true

-- the calls are the first ones of a plan, and then one that shows the fault in the place of the next
pub record Stops (plan : List FlashCall) (old new : FlashHistory) (fault : UpdateFault) : Type 0 where
  pub before : List FlashCall
  pub next : FlashCall
  pub after : List FlashCall
  pub is : plan ≡ before ++ next ∷ after
  pub call : FlashCall
  pub made : new ≡ with_calls old (before ++ call ∷ [])
  pub breaks : Breaks fault next call

-- the first sector was read, and no more
pub record ReadFirst (old new : FlashHistory) (first_sector : List ℕ) : Type 0 where
  pub whole : length first_sector ≡ sector_size
  pub made : new ≡ with_calls old (Read 0 first_sector ∷ [])

-- all of an update with a stream was done
pub record HasUpdated (stream : List ℕ) (old new : FlashHistory) : Type 0 where
  pub first_sector : List ℕ
  pub whole : length first_sector ≡ sector_size
  pub room : HasRoom old.size first_sector stream
  pub made : new ≡ with_calls old (update_calls old.size first_sector stream)

-- a call of an update after the first read ended it
pub record HasStopped (stream : List ℕ) (old new : FlashHistory) (fault : UpdateFault) : Type 0 where
  pub first_sector : List ℕ
  pub whole : length first_sector ≡ sector_size
  pub room : HasRoom old.size first_sector stream
  pub stops : Stops (calls_after old.size stream (target_in first_sector)) (with_calls old (Read 0 first_sector ∷ [])) new fault

-- the read of the first sector failed
pub record FailsFirst (old new : FlashHistory) (writing : Bool) : Type 0 where
  pub sized : IsUpdatableSize old.size
  pub reading : writing ≡ false
  pub made : new ≡ with_calls old (ReadFailed 0 sector_size ∷ [])

-- why an update with a stream did not end well, and what was called
abbrev pub IsRefused : List ℕ → FlashHistory → FlashHistory → UpdateFault → Type 0
IsRefused stream old new (Failed writing) = HasStopped stream old new (Failed writing) ⊎ FailsFirst old new writing
IsRefused stream old new (Differs at wrote read) = HasStopped stream old new (Differs at wrote read)
IsRefused stream old new TooLong =
    (first_sector : List ℕ) × ReadFirst old new first_sector × IsUpdatableSize old.size × HasSlots old.size first_sector × (old.size < update_place first_sector + length stream)
IsRefused stream old new (NoLayout place) = ((IsUpdatableSize old.size → ⊥) × (place ≡ old.size) × (new ≡ old))
    ⊎ ((first_sector : List ℕ) × ReadFirst old new first_sector × NoLayoutAt old.size first_sector place)
IsRefused stream old new NoMemory = new ≡ old

-- What an update with a stream called, so that a power loss at any moment of it leaves one of the flashes that may be
-- left: whichever bytes the flash began with, where it gives what it holds.
pub record LeavesAny (stream : List ℕ) (old new : FlashHistory) : Type 0 where
  pub calls : List FlashCall
  pub made : new ≡ with_calls old calls
  pub leaves : (flash found : List ℕ) → AreBytes flash → length flash ≡ old.size → MayLeave calls flash found → MayBeLeft stream flash found

-- The calls of a flash with their answers, what they make of its bytes, and what a power loss may leave within them
-- (this project's choice).
use Rattle.std.specs.Prelude.{◌≡◌, ℕ, ◌+◌, ◌-◌, ◌<◌, ◌≤◌, ◌⊎◌, ◌&&◌, List, [], ◌∷◌, ◌++◌, Bool, false, nat_lt, nat_le, if◌then◌else◌, length, get_or, slice_range, Result, Ok, Err}
use Rattle.x7_words.specs.Flash.{BecomesBytes, FlashState, IsTorn, cleared, erased, erased_sector, programmed, sector_size, sector_place}
use Rattle.x7_words.specs.declared.flash_call.FlashCall.{FlashCall}
use Rattle.x7_words.specs.declared.flash_call.FlashCall.TheVariants.{Attached, NotAttached, Read, ReadFailed, Erased, EraseFailed, Programmed, ProgramFailed}
use Rattle.x7_words.specs.declared.input.SelectFault.{SelectFault}

-- ---- what was called

-- what a flash was called for and what it answered, the newest last; its size in bytes; and whether it is attached
pub record FlashHistory : Type 0 where
  pub calls : List FlashCall
  pub size : ℕ
  pub attached : Bool

-- the history of a flash
abbrev pub history_of : FlashState → FlashHistory
history_of state = record { calls = state.calls; size = state.extent; attached = state.attached }

-- a history with further calls
abbrev pub with_calls : FlashHistory → List FlashCall → FlashHistory
with_calls old calls = record old { calls = old.calls ++ calls }

-- one call was made, and it was this one
abbrev pub CallsFor : FlashCall → FlashState → FlashState → Type 0
CallsFor call old new = history_of new ≡ with_calls (history_of old) (call ∷ [])

-- an attach under a name with this answer, of a flash that has this size where it was attached
abbrev pub attach_call : List ℕ → ℕ → Result (Unit {0}) SelectFault → FlashCall
attach_call name size (Ok _) = Attached name size
attach_call name size (Err fault) = NotAttached name fault

-- no fault and no absence was counted
pub record NoFlashFault (old new : FlashState) : Type 0 where
  pub faults : new.faults ≡ old.faults
  pub absences : new.absences ≡ old.absences

-- ---- what calls make of the bytes of a flash

-- what may be found within a call: within a write each bit of its range is the old one or its target's
abbrev pub IsWithin : FlashCall → List ℕ → List ℕ → Type 0
IsWithin (Attached name size) old found = found ≡ old
IsWithin (NotAttached name fault) old found = found ≡ old
IsWithin (Read place bytes) old found = found ≡ old
IsWithin (ReadFailed place count) old found = found ≡ old
IsWithin (Erased sector) old found = IsTorn (sector_place sector) erased_sector old found
IsWithin (EraseFailed sector) old found = IsTorn (sector_place sector) erased_sector old found
IsWithin (Programmed place given) old found = IsTorn place (cleared place given old) old found
IsWithin (ProgramFailed place given) old found = IsTorn place (cleared place given old) old found

-- What a call makes of the bytes: a read gave those of the flash, and leaves it; a whole write does all of its work,
-- and one that failed may leave what may be found within it.
abbrev pub Makes : FlashCall → List ℕ → List ℕ → Type 0
Makes (Attached name size) old new = new ≡ old
Makes (NotAttached name fault) old new = new ≡ old
Makes (Read place bytes) old new = (new ≡ old) × (bytes ≡ slice_range old place (place + length bytes))
Makes (ReadFailed place count) old new = new ≡ old
Makes (Erased sector) old new = new ≡ erased sector old
Makes (EraseFailed sector) old new = IsWithin (EraseFailed sector) old new
Makes (Programmed place given) old new = new ≡ programmed place given old
Makes (ProgramFailed place given) old new = IsWithin (ProgramFailed place given) old new

-- a flash that began with some bytes may have answered these calls so, and may have these bytes now
abbrev pub IsHistory : List FlashCall → List ℕ → List ℕ → Type 0
IsHistory [] first now = now ≡ first
IsHistory (call ∷ calls) first now = (mid : List ℕ) × Makes call first mid × IsHistory calls mid now

-- a power loss at some moment of these calls may leave these bytes of a flash that began with the first ones
abbrev pub MayLeave : List FlashCall → List ℕ → List ℕ → Type 0
MayLeave [] first found = found ≡ first
MayLeave (call ∷ calls) first found = IsWithin call first found ⊎ ((mid : List ℕ) × Makes call first mid × MayLeave calls mid found)

-- A flash made these calls, and its bytes, where they are known, are what the calls make of those that it had before.
pub record FollowsCalls (old new : FlashState) : Type 0 where
  pub calls : List FlashCall
  pub made : new.calls ≡ old.calls ++ calls
  pub bytes : BecomesBytes (IsHistory calls) old.bytes new.bytes

-- each read gave the bytes of a flash that has these all along
abbrev pub Gave : List ℕ → List FlashCall → Type 0
Gave all [] = Unit {0}
Gave all (Read place bytes ∷ calls) = (bytes ≡ slice_range all place (place + length bytes)) × Gave all calls
Gave all (call ∷ calls) = Gave all calls

-- ---- where calls write and read

-- whether a place is one of this many from another on
abbrev pub covers : ℕ → ℕ → ℕ → Bool
covers from count place = nat_le from place && nat_lt place (from + count)

-- whether a call writes at a place, whole or not
abbrev pub writes_at : ℕ → FlashCall → Bool
writes_at at (Erased sector) = covers (sector_place sector) sector_size at
writes_at at (EraseFailed sector) = covers (sector_place sector) sector_size at
writes_at at (Programmed place given) = covers place (length given) at
writes_at at (ProgramFailed place given) = covers place (length given) at
writes_at at call = false

-- the calls that write at a place, in their order
abbrev pub writes_of : ℕ → List FlashCall → List FlashCall
writes_of at [] = []
writes_of at (call ∷ calls) = if writes_at at call then call ∷ writes_of at calls else writes_of at calls

-- a byte was read at a place, with no write there since
pub record WasRead (at byte : ℕ) (calls : List FlashCall) : Type 0 where
  pub before : List FlashCall
  pub place : ℕ
  pub bytes : List ℕ
  pub since : List FlashCall
  pub are : calls ≡ before ++ Read place bytes ∷ since
  pub from : place ≤ at
  pub to : at < place + length bytes
  pub is : get_or bytes (at - place) 0 ≡ byte
  pub unwritten : writes_of at since ≡ []

-- What the laws on the calls of an update say (this project's choice).
use Rattle.std.specs.Prelude.{◌≡◌, ℕ, ◌+◌, ◌/◌, ◌<◌, ◌≤◌, List, [], ◌∷◌, ◌++◌, length}
use Rattle.x7_words.specs.Flash.{sector_size}
use Rattle.x7_words.specs.FlashHistory.{FlashHistory, IsHistory, MayLeave, WasRead, writes_of}
use Rattle.x7_words.specs.Word.{AreBytes}
use Rattle.x7_words.specs.declared.flash_call.FlashCall.{FlashCall}
use Rattle.x7_words.specs.declared.flash_call.FlashCall.TheVariants.{Read, Erased, Programmed}
use Rattle.x7_update.specs.After.{MayBeLeft}
use Rattle.x7_update.specs.Layout.{IsUpdatable, update_place}
use Rattle.x7_update.specs.Made.{HasStopped, HasUpdated}
use Rattle.x7_update.specs.Plan.{Follows}
use Rattle.x7_update.specs.UpdateCalls.{calls_to_open, opening, spending, target_in, update_calls}
use Rattle.x7_update.specs.Writing.{wanted_at}
use Rattle.x7_update.specs.declared.fault.UpdateFault.{UpdateFault}

-- a flash that can be updated takes this stream, which is of bytes, and `first_sector` is of a sector's size
pub record TakesUpdate (flash stream first_sector : List ℕ) : Type 0 where
  pub updatable : IsUpdatable flash
  pub bytes : AreBytes stream
  pub fits : update_place flash + length stream ≤ length flash
  pub whole : length first_sector ≡ sector_size

-- a power loss within calls that follow those of an update leaves what an update may leave of a flash of bytes
abbrev pub LeavesWithinCalls : List ℕ → List ℕ → List ℕ → Type 0
LeavesWithinCalls flash stream first_sector =
    (found : List ℕ) (calls : List FlashCall) → AreBytes flash → Follows calls (update_calls (length flash) first_sector stream) → MayLeave calls flash found → MayBeLeft stream flash found

-- each place from the update's on is written to by the one erase of its sector and then, where the stream has it, by the
-- one program of the stream
abbrev pub WritesOnceAbove : ℕ → List ℕ → List ℕ → Type 0
WritesOnceAbove size first_sector stream =
    (place : ℕ) → update_place first_sector ≤ place → place < size
    → writes_of place (update_calls size first_sector stream) ≡ Erased (place / sector_size) ∷ writes_of place (Programmed (update_place first_sector) stream ∷ [])

-- below the update's place nothing is written but the switch words of the open slot and of the next
abbrev pub WritesSwitchesBelow : ℕ → List ℕ → List ℕ → Type 0
WritesSwitchesBelow size first_sector stream =
    (place : ℕ) → place < update_place first_sector
    → writes_of place (update_calls size first_sector stream) ≡ writes_of place (spending (target_in first_sector).slots.open_slot) ++ writes_of place (opening (target_in first_sector).slots.next)

-- each byte from the update's place on was read as it is wanted, with no write there since, before the next slot is opened
abbrev pub VerifiesBeforeOpening : ℕ → List ℕ → List ℕ → Type 0
VerifiesBeforeOpening size first_sector stream =
    (place : ℕ) → update_place first_sector ≤ place → place < size
    → WasRead place (wanted_at (update_place first_sector) stream place) (calls_to_open size first_sector stream (target_in first_sector))

-- what a flash held before an update, and what it holds now
pub record HeldBytes : Type 0 where
  pub before : List ℕ
  pub now : List ℕ

-- all of an update with a stream of bytes was done, and a flash that gives what it holds may have answered so
pub record GaveAllUpdate (stream : List ℕ) (held : HeldBytes) (old new : FlashHistory) : Type 0 where
  pub bytes : AreBytes stream
  pub updated : HasUpdated stream old new
  pub size : length held.before ≡ old.size
  pub gave : IsHistory (update_calls old.size updated.first_sector stream) held.before held.now

-- an update with a stream of bytes was stopped by a fault, and a flash that gives what it holds may have answered so
pub record GaveUpToStop (stream : List ℕ) (held : HeldBytes) (old new : FlashHistory) (fault : UpdateFault) : Type 0 where
  pub bytes : AreBytes stream
  pub stopped : HasStopped stream old new fault
  pub size : length held.before ≡ old.size
  pub gave : IsHistory (Read 0 stopped.first_sector ∷ (stopped.stops.before ++ stopped.stops.call ∷ [])) held.before held.now

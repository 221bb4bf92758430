-- A flash after any number of updates, of which each stands after the golden stream (this project's choice).
use Rattle.std.specs.Prelude.{◌≡◌, ℕ, List, take}
use Rattle.x7_words.specs.Word.{AreBytes}
use Rattle.x7_packets.specs.FlashSlot.{sector_size}
use Rattle.x7_part.specs.Part.{PartData}
use Rattle.x7_boot.specs.Attempt.{BootAttempt}
use Rattle.x7_recovery.specs.Clean.{StartsClean}
use Rattle.x7_recovery.specs.Golden.{GoldenStarts}
use Rattle.x7_recovery.specs.OpenSlot.{OpenFlash, slot_of_flash}
use Rattle.x7_update.specs.After.{IsAfterUpdate}
use Rattle.x7_update.specs.Layout.{IsUpdatable, update_place}

-- the flash after updates, one after another; each was one of a flash that could be updated
pub data AfterUpdates (flash : List ℕ) : List ℕ → Type 0 where
  none : AfterUpdates flash flash
  one_more : (before found stream : List ℕ) → AfterUpdates flash before → IsUpdatable before → IsAfterUpdate stream before found → AfterUpdates flash found

-- A flash that could be updated was updated with a stream, for a part whose start address counts bytes; the first
-- sector of what this left is bytes.
pub record WasUpdated (part : PartData) (stream flash found : List ℕ) : Type 0 where
  pub unit : part.start_unit ≡ 1
  pub updatable : IsUpdatable flash
  pub after : IsAfterUpdate stream flash found
  pub fits : AreBytes (take sector_size found)

-- a part, its flash before any update and after some, and an attempt with the golden stream before any update
pub record UpdatedFlash : Type 0 where
  pub part : PartData
  pub flash : List ℕ
  pub found : List ℕ
  pub golden : BootAttempt

-- A flash was updated any number of times, and then once more with a stream, as `WasUpdated` says; before all updates a
-- golden stream of any kind started and began clean, as one attempt shows that ended at the update's place or before
-- it.
pub record IsUpdated (u : UpdatedFlash) : Type 0 where
  pub starts : GoldenStarts u.part u.flash u.golden
  pub clean : StartsClean u.part u.flash u.golden
  pub before : List ℕ
  pub updates : AfterUpdates u.flash before
  pub stream : List ℕ
  pub last : WasUpdated u.part stream before u.found

-- the slot that the last update opened
abbrev pub opened_by : {u : UpdatedFlash} → IsUpdated u → OpenFlash
opened_by {u} is = slot_of_flash u.part u.found is.last.after.next (update_place u.flash)

-- A region of a flash that is updated: the flash begins with it, and what comes after it is never touched (this
-- project's choice).
use Rattle.std.specs.Prelude.{◌≡◌, ◌≤◌, ℕ, List, [], ◌∷◌, ◌++◌, false, length}
use Rattle.x7_part.specs.Part.{PartData}
use Rattle.x7_boot.specs.Attempt.{BootAttempt, attempt_end}
use Rattle.x7_boot.specs.Boot.{BootedState, IsBoot}
use Rattle.x7_boot.specs.BootCourse.{course_of}
use Rattle.x7_update.specs.After.{IsAfterUpdate, MayBeLeft}
use Rattle.x7_recovery.specs.Golden.{IsPreparedByAttempt, StartsAlike, UpdatingByAttempt}

-- each of these attempts ended within the region: at its last byte or before it
abbrev pub EndWithin : List ℕ → List BootAttempt → Type 0
EndWithin region [] = Unit {0}
EndWithin region (t ∷ older) = (t.wrapped ≡ false) × (attempt_end t ≤ length region) × EndWithin region older

-- what a power loss in an update of a region left of it, where its golden stream starts after an erased first sector by
-- an attempt that ends at the update's place or before it
pub record IsLeftOfRegion (u : UpdatingByAttempt) (found : List ℕ) : Type 0 where
  pub prepared : IsPreparedByAttempt u
  pub left : MayBeLeft u.stream u.flash found

-- a boot from a flash that is the region alone, of which each attempt ended within it
pub record BootsWithin (part : PartData) (region : List ℕ) (b : BootedState) : Type 0 where
  pub boot : IsBoot part region b
  pub within : EndWithin region (boot.last ∷ boot.older)

-- A boot from a flash of which an update of a region left `found`, with `more` after it. It is that of the region as it
-- was, with the same bytes after it, or one that starts as the golden stream does, or that of the updated region with
-- them.
pub data RegionBootsAlike (u : UpdatingByAttempt) (more found : List ℕ) (b : BootedState) : Type 0 where
  as_before : IsBoot u.part (u.flash ++ more) b → RegionBootsAlike u more found b
  golden : (boot : IsBoot u.part (found ++ more) b) → StartsAlike u.part u.golden (course_of b boot.last) → RegionBootsAlike u more found b
  as_after : IsAfterUpdate u.stream u.flash found → IsBoot u.part (found ++ more) b → RegionBootsAlike u more found b

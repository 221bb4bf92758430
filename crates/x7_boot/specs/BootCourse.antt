-- The course of a boot: its attempts in order, how the boot ended, and the last attempt (UG470, MultiBoot and
-- fallback).
use Rattle.std.specs.Prelude.{◌≡◌, ℕ, List, ◌∷◌, map, reverse}
use Rattle.x7_part.specs.Part.{PartData}
use Rattle.x7_boot.specs.Attempt.{BootAttempt}
use Rattle.x7_boot.specs.Boot.{BootedState, LeadsToEnd, tried}
use Rattle.x7_boot.specs.declared.boots.BootEnd.{BootEnd}
use Rattle.x7_boot.specs.declared.boots.Tried.{Tried}

-- the attempts of a boot by kind, address and ending, how it ended, and its last attempt
pub record BootCourse : Type 0 where
  pub attempts : List Tried
  pub end : BootEnd
  pub last : BootAttempt

-- the course of what a boot came to, by its last attempt
abbrev pub course_of : BootedState → BootAttempt → BootCourse
course_of b last = record { attempts = b.attempts; end = b.end; last = last }

-- the course through attempts to an end, given by the last attempt and then the older ones, the newest first
abbrev pub course_along : BootAttempt → List BootAttempt → BootEnd → BootCourse
course_along last older end = record { attempts = reverse (map tried (last ∷ older)); end = end; last = last }

-- a flash leads a device of the part through this course
pub record IsCourse (part : PartData) (flash : List ℕ) (c : BootCourse) : Type 0 where
  pub older : List BootAttempt
  pub leads : LeadsToEnd part flash (c.last ∷ older) c.end
  pub attempts_are : c.attempts ≡ reverse (map tried (c.last ∷ older))

-- wherever the flash leads a device of the part through attempts to an end, this course is the one through them
abbrev pub LeadsOnlyAlong : PartData → List ℕ → BootCourse → Type 0
LeadsOnlyAlong part flash c = (last : BootAttempt) (older : List BootAttempt) (end : BootEnd) → LeadsToEnd part flash (last ∷ older) end → c ≡ course_along last older end

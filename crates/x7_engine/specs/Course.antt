-- Courses. A course is all that the values of a device's registers are a function of: the part, what the last reset
-- kept, and the accesses and the number of bytes since then (this project's choice).
use Rattle.std.specs.Prelude.{ℕ}
use Rattle.x7_packets.specs.History.{History}
use Rattle.x7_part.specs.Part.{PartData}
use Rattle.x7_engine.specs.declared.kept.Kept.{Kept}

-- a course: the part, what the last reset kept, the accesses since then, and how many bytes were taken since then
pub record Course : Type 0 where
  pub part : PartData
  pub kept : Kept
  pub history : History
  pub taken : ℕ

-- the course of a part, what a reset kept, a history and a count of bytes
abbrev pub course_at : PartData → Kept → History → ℕ → Course
course_at part kept h n = record { part = part; kept = kept; history = h; taken = n }

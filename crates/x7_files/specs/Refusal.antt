-- Files that were not opened, and how they are counted (this project's choice).
use Rattle.std.specs.Prelude.{◌≡◌, ◌↔◌, ℕ, Option, None, Some}
use Rattle.std.specs.declared.io.ErrorKind.{ErrorKind}
use Rattle.std.specs.declared.io.ErrorKind.TheVariants.{NotFound}
use Rattle.x7_words.specs.Count.{raised}
use Rattle.x7_words.specs.declared.input.SelectFault.{SelectFault}
use Rattle.x7_words.specs.declared.input.SelectFault.TheVariants.{Missing, Failed}

-- the answer where no file was opened, by the kind of the error: `Missing` for a file that isn't there, and for nothing
-- else
abbrev pub RefusedFor : Option ErrorKind → SelectFault → Type 0
RefusedFor None fault = ⊥
RefusedFor (Some kind) fault = (fault ≡ Missing) ↔ (kind ≡ NotFound)

-- the count of faults after a select or an attach with this answer
abbrev pub faults_after : SelectFault → ℕ → ℕ
faults_after Missing count = count
faults_after Failed count = raised count

-- the count of absences after a select or an attach with this answer
abbrev pub absences_after : SelectFault → ℕ → ℕ
absences_after Missing count = raised count
absences_after Failed count = count

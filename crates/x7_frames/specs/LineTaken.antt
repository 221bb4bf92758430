-- One line more of a frames text, and the marks of addresses (this project's choice).
use Rattle.std.specs.Prelude.{◌≡◌, ◌↔◌, ℕ, ◌<◌, ◌⊎◌, Bool, true, false, List, [], ◌∷◌, ◌++◌, length, slice_index, slice_index_or, Contains}
use Rattle.x7_text.specs.Lines.{means_nothing}
use Rattle.x7_part.specs.AddressOrder.{addresses_in, Rises}
use Rattle.x7_part.specs.Part.{PartData, frame_words}
use Rattle.x7_memory.specs.Plan.{PlanRow, planned_addresses}
use Rattle.x7_frames.specs.FramesText.{IsFrameLine, IsNoLine, IsForeign, IsRepeated}
use Rattle.x7_frames.specs.declared.fault.FramesFault.{FramesFault}
use Rattle.x7_frames.specs.declared.fault.FramesFault.TheVariants as fault

-- of the part's addresses, which rise, there is a mark each: that of rank r, from 0, is true exactly where a row has
-- the address
pub record HasMarks (part : PartData) (rows : List PlanRow) (marks : List Bool) : Type 0 where
  pub order : Rises 0 (addresses_in part)
  pub long : length marks ≡ length (addresses_in part)
  pub at : (r : ℕ) → r < length marks → (slice_index_or marks r false ≡ true) ↔ Contains (planned_addresses rows) (slice_index (addresses_in part) r)

-- the line is that of a frame of the part, whose address no row has, and its row was added after the others
pub record IsAdded (part : PartData) (line : List ℕ) (old new : List PlanRow) : Type 0 where
  pub row : PlanRow
  pub frame : IsFrameLine (frame_words part) line row
  pub address : Contains (addresses_in part) row.far
  pub apart : ¬ Contains (planned_addresses old) row.far
  pub rows : new ≡ old ++ row ∷ []

-- a line was taken: one that means nothing, and the rows stayed, or that of a frame, and its row was added
abbrev pub TakesLine : PartData → List ℕ → List PlanRow → List PlanRow → Type 0
TakesLine part line old new = ((means_nothing line ≡ true) × (new ≡ old)) ⊎ IsAdded part line old new

-- a line that can be taken after lines which gave these rows: some rows are what it leaves
abbrev pub IsGoodLine : PartData → List PlanRow → List ℕ → Type 0
IsGoodLine part rows line = (new : List PlanRow) × TakesLine part line rows new

-- line n, after lines of these rows, has this fault; want of memory is never a line's
abbrev pub IsFaultAt : PartData → List PlanRow → ℕ → List ℕ → FramesFault → Type 0
IsFaultAt part rows n line (fault.Line m) = (m ≡ n) × IsNoLine (frame_words part) line
IsFaultAt part rows n line (fault.Address m) = (m ≡ n) × IsForeign part line
IsFaultAt part rows n line (fault.Twice m) = (m ≡ n) × IsRepeated part rows line
IsFaultAt part rows n line fault.NoMemory = ⊥

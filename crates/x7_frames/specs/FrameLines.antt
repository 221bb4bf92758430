-- A frames text that is read line by line (this project's choice).
use Rattle.std.specs.Prelude.{◌≡◌, ◌⊎◌, ◌≤◌, ℕ, Bool, List, [], ◌∷◌, ◌++◌, Result, Err}
use Rattle.x7_text.specs.LineReader.{ReaderState, StandsFor, WantsIn}
use Rattle.x7_text.specs.Lines.{split}
use Rattle.x7_part.specs.Part.{PartData, frame_words}
use Rattle.x7_memory.specs.Plan.{AreApart, PlanData, PlanRow}
use Rattle.x7_frames.specs.FramesText.{AreGood, IsPlanOf}
use Rattle.x7_frames.specs.LineTaken.{HasMarks}
use Rattle.x7_frames.specs.declared.fault.FramesFault.{FramesFault}
use Rattle.x7_frames.specs.declared.fault.FramesFault.TheVariants as fault

-- rows of which no two have one address, and what goes with them: their width in words, which is the part's, the marks
-- of their addresses, and room for at least the words of a frame
pub record AreSoundRows (part : PartData) (rows : List PlanRow) (width : ℕ) (marks : List Bool) (room : ℕ) : Type 0 where
  pub wide : width ≡ frame_words part
  pub marked : HasMarks part rows marks
  pub roomy : frame_words part ≤ room
  pub apart : AreApart rows

-- a part, and the rows that the lines of a text for it gave so far
pub record RowsRead : Type 0 where
  pub part : PartData
  pub rows : List PlanRow

-- good lines of a part gave these rows
abbrev pub HasRows : PartData → RowsRead → List (List ℕ) → Type 0
HasRows part r lines = (r.part ≡ part) × AreGood part lines r.rows

-- lines that stay good with one line more after them: only at such a line may memory be wanting
abbrev pub StayGoodWith : PartData → List (List ℕ) → List ℕ → Type 0
StayGoodWith part lines line = (rows : List PlanRow) × AreGood part (lines ++ line ∷ []) rows

-- a reader was given this text for a part, and memory may be wanting as it takes this piece
abbrev pub WantsForPiece : PartData → ReaderState RowsRead → List ℕ → List ℕ → Type 0
WantsForPiece part r text piece = (s : StandsFor (HasRows part) r text) × WantsIn (HasRows part) (StayGoodWith part) s.lines piece

-- a reader was given this text for a part, and memory may be wanting at its last line, the one without an end
abbrev pub WantsForEnd : PartData → ReaderState RowsRead → List ℕ → Type 0
WantsForEnd part r text = (s : StandsFor (HasRows part) r text) × StayGoodWith part s.lines r.held

-- each text of these lines comes to this plan or this fault
abbrev pub ComeTo : PartData → Result PlanData FramesFault → List (List ℕ) → Type 0
ComeTo part r lines = (text : List ℕ) → split text ≡ lines → IsPlanOf part text r

-- each text of these lines has this fault; of want of memory nothing is said here
abbrev pub HasFramesFault : PartData → FramesFault → List (List ℕ) → Type 0
HasFramesFault part f lines = (f ≡ fault.NoMemory) ⊎ ComeTo part (Err f) lines

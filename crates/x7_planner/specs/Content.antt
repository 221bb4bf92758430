-- A plan's frames by content: equal ones together, and where each content begins (this project's choice). A content is
-- the words of a frame.
use Rattle.std.specs.Prelude.{◌≡◌, ◌≢◌, ℕ, ◌-◌, ◌<◌, ◌≤◌, List, length, map, slice_index_or, All, Contains}
use Rattle.x7_memory.specs.Plan.{PlanRow}
use Rattle.x7_planner.specs.PartialStream.{with_content}
use Rattle.x7_planner.specs.declared.content.ByContent.{ByContent}
use Rattle.x7_planner.specs.declared.content.PlannedFrame.{PlannedFrame}

-- the row of a planned frame
abbrev pub planned_row : PlannedFrame → PlanRow
planned_row c = record { far = c.far; words = c.words.now }

-- the rows of planned frames
abbrev pub planned_rows : List PlannedFrame → List PlanRow
planned_rows frames = map planned_row frames

-- the rows of a plan's frames in the order by content
abbrev pub rows_by_content : ByContent → List PlanRow
rows_by_content b = planned_rows b.frames.now

-- rows with equal words stand together
abbrev pub AreTogether : List PlanRow → Type 0
AreTogether rows = (i k j : ℕ) (d : PlanRow) → i ≤ k → k ≤ j → j < length rows
    → (slice_index_or rows i d).words ≡ (slice_index_or rows j d).words → (slice_index_or rows k d).words ≡ (slice_index_or rows i d).words

-- a planned frame has its row's place in a plan
abbrev pub IsPlaced : List PlanRow → PlannedFrame → Type 0
IsPlaced rows c = (c.row < length rows) × ((d : PlanRow) → slice_index_or rows c.row d ≡ planned_row c)

-- the frames of all rows of a plan: equal ones together, and these in the plan's order
pub record AreFramesByContent (rows : List PlanRow) (frames : List PlannedFrame) : Type 0 where
  pub together : AreTogether (planned_rows frames)
  pub same : All (λ c. with_content c.words.now (planned_rows frames) ≡ with_content c.words.now rows) frames
  pub placed : All (IsPlaced rows) frames
  pub each : (i : ℕ) → i < length rows → Contains (map (λ c. c.row) frames) i

-- rows with these words begin at place `start`, from 0: the row there has them, and the row before it, if any, has
-- others; where rows with equal words stand together, that row is the first with these words
pub record WordsBegin (rows : List PlanRow) (words : List ℕ) (start : ℕ) : Type 0 where
  pub inside : start < length rows
  pub has : (d : PlanRow) → (slice_index_or rows start d).words ≡ words
  pub before : (d : PlanRow) → 0 < start → (slice_index_or rows (start - 1) d).words ≢ words

-- `start` is where rows with the words of the row before place `place`, from 0, begin (`WordsBegin`), and 0 where
-- `place` is 0; it is `place` at most
pub record IsStartBefore (rows : List PlanRow) (start place : ℕ) : Type 0 where
  pub no_later : start ≤ place
  pub none : place ≡ 0 → start ≡ 0
  pub first : (d : PlanRow) → 0 < place → WordsBegin rows (slice_index_or rows (place - 1) d).words start

-- for each row `firsts` has, at the row's place, where rows with its words begin (`WordsBegin`)
pub record AreFirsts (rows : List PlanRow) (firsts : List ℕ) : Type 0 where
  pub count : length firsts ≡ length rows
  pub each : (k : ℕ) (d : PlanRow) → k < length rows → WordsBegin rows (slice_index_or rows k d).words (slice_index_or firsts k 0)

-- for each row of the plan `starts` has, at the row's place, where rows with its words begin among the rows by content
-- (`WordsBegin`)
pub record AreStarts (rows by_content : List PlanRow) (starts : List ℕ) : Type 0 where
  pub count : length starts ≡ length rows
  pub each : (i : ℕ) (d : PlanRow) → i < length rows → WordsBegin by_content (slice_index_or rows i d).words (slice_index_or starts i 0)

-- a plan's frames by content: equal ones stand together, and it is known where the content of each frame, and of each
-- row of the plan, begins
pub record AreByContent (rows : List PlanRow) (b : ByContent) : Type 0 where
  pub frames : AreFramesByContent rows b.frames.now
  pub firsts : AreFirsts (planned_rows b.frames.now) b.firsts.now
  pub starts : AreStarts rows (planned_rows b.frames.now) b.starts.now

-- frames with these words begin at `start`, among frames of which equal ones stand together and for each of which the
-- first that is equal to it is known
pub record BeginsAt (b : ByContent) (words : List ℕ) (start : ℕ) : Type 0 where
  pub together : AreTogether (planned_rows b.frames.now)
  pub firsts : AreFirsts (planned_rows b.frames.now) b.firsts.now
  pub first : WordsBegin (planned_rows b.frames.now) words start
  pub inside : start < length b.frames.now

-- A plan: the frames that a user plans to write, in number order of their addresses (this project's choice).
use Rattle.std.specs.Prelude.{◌≡◌, ℕ, ◌^◌, ◌<◌, List, [], ◌∷◌, ◌++◌, length, map, slice_index_or, All, Contains, Some, None, if◌then◌else◌, ◌==◌}
use Rattle.x7_words.specs.Word.{AreWords}
use Rattle.x7_part.specs.AddressOrder.{addresses_in}
use Rattle.x7_part.specs.Part.{PartData, frame_words}
use Rattle.x7_memory.specs.FrameMap.{FrameMap, override}
use Rattle.x7_memory.specs.PartFrames.{zeros}

-- a frame and its address: a row of a plan, or a pair that is put in a memory
pub record PlanRow : Type 0 where
  pub far : ℕ
  pub words : List ℕ

-- rows, and a width in words; that the frames of the rows have this width, `IsDraft` and `IsPlan` say
pub record PlanData : Type 0 where
  pub width : ℕ
  pub rows : List PlanRow

-- the addresses of rows, which a plan of them names
abbrev pub planned_addresses : List PlanRow → List ℕ
planned_addresses rows = map (λ row. row.far) rows

-- rows as a map: the frame of the first row with the address, none where no row has it
unfoldable pub planned : List PlanRow → FrameMap
planned [] far = None
planned (row ∷ rows) far = if far == row.far then Some row.words else planned rows far

-- the rows' addresses rise, so none comes twice
abbrev pub AreInOrder : List PlanRow → Type 0
AreInOrder rows = (i j : ℕ) (d : PlanRow) → i < j → j < length rows → (slice_index_or rows i d).far < (slice_index_or rows j d).far

-- a row's address and words have 32 bits
pub record IsPlanRow (row : PlanRow) : Type 0 where
  pub far : row.far < 2 ^ 32
  pub words : AreWords row.words

-- no two rows have one address, in whatever order they stand
abbrev pub AreApart : List PlanRow → Type 0
AreApart rows = (i j : ℕ) (d : PlanRow) → i < j → j < length rows → (slice_index_or rows i d).far ≡ (slice_index_or rows j d).far → ⊥

-- a draft's rows have its width, and addresses and words of 32 bits; they stand in any order
pub record IsDraft (draft : PlanData) : Type 0 where
  pub width : All (λ row. length row.words ≡ draft.width) draft.rows
  pub each : All IsPlanRow draft.rows

-- a plan's rows stand in order, each address once, and have its width, and addresses and words of 32 bits
pub record IsPlan (plan : PlanData) : Type 0 where
  pub order : AreInOrder plan.rows
  pub width : All (λ row. length row.words ≡ plan.width) plan.rows
  pub each : All IsPlanRow plan.rows

-- each row's address is one of the part
abbrev pub AreAddressed : PartData → List PlanRow → Type 0
AreAddressed part rows = All (λ row. Contains (addresses_in part) row.far) rows

-- the plan names each address of the part
abbrev pub PlansEach : PartData → PlanData → Type 0
PlansEach part plan = (far : ℕ) → Contains (addresses_in part) far → Contains (planned_addresses plan.rows) far

-- a plan for a part: its frames have the part's width, and stand at addresses of the part
pub record IsPlanFor (part : PartData) (plan : PlanData) : Type 0 where
  pub is_plan : IsPlan plan
  pub width : plan.width ≡ frame_words part
  pub addressed : AreAddressed part plan.rows

-- the new plan is the old one with this row more, at some place
abbrev pub HasOneRowMore : PlanData → PlanRow → PlanData → Type 0
HasOneRowMore old row new =
    (before : List PlanRow) × (after : List PlanRow) × (old.rows ≡ before ++ after) × (new.rows ≡ before ++ row ∷ after) × (new.width ≡ old.width)

-- the memory that a full write of the plan leaves: zeros, overridden by the plan
abbrev pub total : PartData → PlanData → FrameMap
total part plan = override (zeros part) (planned plan.rows)

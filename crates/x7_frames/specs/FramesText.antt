-- Frame texts: a line for each planned frame (this project's choice).
use Rattle.std.specs.Prelude.{◌≡◌, ℕ, ◌+◌, ◌*◌, ◌^◌, ◌<◌, true, false, List, [], ◌∷◌, ◌++◌, length, codes, Contains, IsPermutation, Some, Result, Ok, Err}
use Rattle.std.specs.List.{flat_map}
use Rattle.x7_words.specs.Characters.{line_end_byte, space_byte}
use Rattle.x7_words.specs.Word.{words_of_bytes}
use Rattle.x7_text.specs.Digits.{hex_word}
use Rattle.x7_text.specs.EitherCase.{bytes_of_pairs}
use Rattle.x7_text.specs.Lines.{means_nothing, split}
use Rattle.x7_part.specs.AddressOrder.{addresses_in}
use Rattle.x7_part.specs.Part.{PartData, frame_words}
use Rattle.x7_memory.specs.Plan.{PlanRow, PlanData, IsPlan, AreAddressed, AreApart, planned_addresses}
use Rattle.x7_frames.specs.declared.fault.FramesFault.{FramesFault}
use Rattle.x7_frames.specs.declared.fault.FramesFault.TheVariants as fault

-- what a frame's line begins with: `frame`, a space, the address in eight upper-case hexadecimal digits, and a space
abbrev pub frame_head : ℕ → List ℕ
frame_head far = codes "frame " ++ (hex_word far ++ space_byte ∷ [])

-- the line is no frame's head, whatever its address, with this many bytes after it
abbrev pub HasNoFrameHead : ℕ → List ℕ → Type 0
HasNoFrameHead digit_count line = (far : ℕ) (digits : List ℕ) → far < 2 ^ 32 → length digits ≡ digit_count → line ≡ frame_head far ++ digits → ⊥

-- the line of a frame of `width` words, without its line end: after its head the bytes of its words, the highest byte
-- of each first, in two hexadecimal digits of either case each
pub record IsFrameLine (width : ℕ) (line : List ℕ) (row : PlanRow) : Type 0 where
  pub far : row.far < 2 ^ 32
  pub digits : List ℕ
  pub text : line ≡ frame_head row.far ++ digits
  pub bytes : List ℕ
  pub read : bytes_of_pairs digits ≡ Some bytes
  pub long : length bytes ≡ 4 * width
  pub words : row.words ≡ words_of_bytes bytes

-- the lines of the rows, of `width` words each and in order, and anywhere among them lines that mean nothing
pub data AreLinesOfRows : ℕ → List (List ℕ) → List PlanRow → Type 0 where
  no_line : (width : ℕ) → AreLinesOfRows width [] []
  no_frame : (width : ℕ) (line : List ℕ) (lines : List (List ℕ)) (rows : List PlanRow) → means_nothing line ≡ true →
      AreLinesOfRows width lines rows → AreLinesOfRows width (line ∷ lines) rows
  frame : (width : ℕ) (line : List ℕ) (lines : List (List ℕ)) (row : PlanRow) (rows : List PlanRow) → IsFrameLine width line row →
      AreLinesOfRows width lines rows → AreLinesOfRows width (line ∷ lines) (row ∷ rows)

-- good lines, and their rows: the frames have the part's width and stand at its addresses, no two at one address
pub record AreGood (part : PartData) (lines : List (List ℕ)) (rows : List PlanRow) : Type 0 where
  pub read : AreLinesOfRows (frame_words part) lines rows
  pub addresses : AreAddressed part rows
  pub apart : AreApart rows

-- all lines of a text are good, and the plan has their frames, in number order of the addresses
pub record HasPlan (part : PartData) (text : List ℕ) (plan : PlanData) : Type 0 where
  pub rows : List PlanRow
  pub good : AreGood part (split text) rows
  pub same : IsPermutation rows plan.rows
  pub is_plan : IsPlan plan
  pub width : plan.width ≡ frame_words part

-- line n of a text, from 1, is `line`, and the lines before it are good and have these rows
pub record ReachesLine (part : PartData) (text : List ℕ) (n : ℕ) (line : List ℕ) (rows : List PlanRow) : Type 0 where
  pub before : List (List ℕ)
  pub after : List (List ℕ)
  pub texts : split text ≡ before ++ line ∷ after
  pub good : AreGood part before rows
  pub count : n ≡ length before + 1

-- a line is at fault: it has a meaning, and is the line of no frame of `width` words
pub record IsNoLine (width : ℕ) (line : List ℕ) : Type 0 where
  pub has_meaning : means_nothing line ≡ false
  pub no_frame : (row : PlanRow) → IsFrameLine width line row → ⊥

-- a line is at fault: it is a frame's line, and its address is none of the part
pub record IsForeign (part : PartData) (line : List ℕ) : Type 0 where
  pub row : PlanRow
  pub frame : IsFrameLine (frame_words part) line row
  pub foreign : ¬ Contains (addresses_in part) row.far

-- a line is at fault after lines of these rows: it is a frame's line, at an address of the part that a row has
pub record IsRepeated (part : PartData) (rows : List PlanRow) (line : List ℕ) : Type 0 where
  pub row : PlanRow
  pub frame : IsFrameLine (frame_words part) line row
  pub address : Contains (addresses_in part) row.far
  pub repeated : Contains (planned_addresses rows) row.far

-- what a text comes to: its plan, or its first line at fault; want of memory is never the text's
abbrev pub IsPlanOf : PartData → List ℕ → Result PlanData FramesFault → Type 0
IsPlanOf part text (Ok plan) = HasPlan part text plan
IsPlanOf part text (Err (fault.Line n)) = (line : List ℕ) × (rows : List PlanRow) × ReachesLine part text n line rows × IsNoLine (frame_words part) line
IsPlanOf part text (Err (fault.Address n)) = (line : List ℕ) × (rows : List PlanRow) × ReachesLine part text n line rows × IsForeign part line
IsPlanOf part text (Err (fault.Twice n)) = (line : List ℕ) × (rows : List PlanRow) × ReachesLine part text n line rows × IsRepeated part rows line
IsPlanOf part text (Err fault.NoMemory) = ⊥

-- a text has a plan
abbrev pub IsGoodText : PartData → List ℕ → Type 0
IsGoodText part text = (plan : PlanData) × HasPlan part text plan

-- a text has a plan or a fault
abbrev pub HasPlanOrFault : PartData → List ℕ → Type 0
HasPlanOrFault part text = (r : Result PlanData FramesFault) × IsPlanOf part text r

-- the line of a row, with its line end, its digits in upper case
abbrev pub frame_line : PlanRow → List ℕ
frame_line row = frame_head row.far ++ (flat_map hex_word row.words ++ line_end_byte ∷ [])

-- the text of a plan: the line of each row, in the order of the rows
abbrev pub plan_text : PlanData → List ℕ
plan_text plan = flat_map frame_line plan.rows

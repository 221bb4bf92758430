-- A flash text that is read line by line (this project's choice).
use Rattle.std.specs.Prelude.{◌≡◌, ◌⊎◌, ℕ, List, [], ◌∷◌, ◌++◌, map, Option, MatchOption, Result, Err, MatchResult}
use Rattle.std.specs.Borrow.{Bor}
use Rattle.x7_text.specs.LineReader.{FailsAfter}
use Rattle.x7_text.specs.Lines.{split}
use Rattle.x7_mcs.specs.Flash.{FlashReading, after_lines, flash_in, of_no_line, with_end}
use Rattle.x7_mcs.specs.Readings.{CameTo, FailsAsReading, HasNoFault}
use Rattle.x7_mcs.specs.Lines.{bare_lines, without_return}
use Rattle.x7_mcs.specs.declared.mcs_lines.McsLines.{McsLines}
use Rattle.x7_mcs.specs.declared.fault.McsFault.{McsFault}
use Rattle.x7_mcs.specs.declared.fault.McsFault.TheVariants as fault

-- lines that are taken one by one came to what this reading comes to
abbrev pub LinesCameTo : Result FlashReading McsFault → McsLines → Type 0
LinesCameTo reading b = CameTo reading b.context b.image

-- lines that have their end were taken: they gave the base that stands, whether a record 01 has come, and the records
-- that the image has
abbrev pub HasReadRecords : McsLines → List (List ℕ) → Type 0
HasReadRecords b lines = LinesCameTo (after_lines 1 of_no_line (map without_return lines)) b

-- the flash bytes of a text of these lines, or its fault
abbrev pub flash_of_lines : List (List ℕ) → Result (List ℕ) McsFault
flash_of_lines lines = flash_in (with_end (after_lines 1 of_no_line (bare_lines lines)))

-- a line, with its end or as the last of a text, is read without a fault, as are those before it: memory may be wanting
-- at it
abbrev pub AreGoodMcsLines : List (List ℕ) → List ℕ → Type 0
AreGoodMcsLines lines line = HasNoFault (after_lines 1 of_no_line (map without_return (lines ++ line ∷ []))) ⊎ HasNoFault (after_lines 1 of_no_line (bare_lines (lines ++ line ∷ [])))

-- a text of these lines has this fault; of want of memory nothing is said here
abbrev pub HasMcsFault : McsFault → List (List ℕ) → Type 0
HasMcsFault f lines = (f ≡ fault.NoMemory) ⊎ (flash_of_lines lines ≡ Err f)

-- a call on lines that are taken one by one came to what this reading comes to, or failed as `FailsAsReading` says
abbrev pub LinesComeTo : {A : Type 0} → Result A McsFault → Result FlashReading McsFault → McsLines → Type 0
LinesComeTo result reading new = MatchResult result (λ _. LinesCameTo reading new) (λ f. FailsAsReading reading f)

-- the first line of a text was taken after these lines, and this is left of the text
pub record TakesFirstLine (lines : List (List ℕ)) (text rest : List ℕ) (new : McsLines) : Type 0 where
  pub line : List ℕ
  pub cut : split text ≡ line ∷ split rest
  pub read : HasReadRecords new (lines ++ line ∷ [])

-- After these lines the first line of a text was taken, and the answer is what is left of the text; or that line has no
-- end, and then it was not taken and the answer is none. Or every text that goes on so has the fault.
abbrev pub TakesIfEnded : List (List ℕ) → List ℕ → Result (Option (Bor (List ℕ))) McsFault → McsLines → Type 0
TakesIfEnded lines text result new =
    MatchResult result
    (λ found. MatchOption found (HasReadRecords new lines) (λ rest. TakesFirstLine lines text rest.now new))
    (λ f. FailsAfter (HasMcsFault f) lines text)

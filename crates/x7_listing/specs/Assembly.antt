-- What a text assembles to: the bytes of its header's line, if it begins with one, and of its lines; or the first text
-- that is no line's; or the first line at which the bytes pass a limit (this project's choice). Lines count from 1.
use Rattle.std.specs.Prelude.{◌≡◌, ◌≢◌, ◌⊎◌, ℕ, ◌+◌, ◌-◌, ◌<◌, ◌≤◌, List, [], ◌∷◌, ◌++◌, length, map, fold, Result, Ok, Err}
use Rattle.std.specs.List.{AllByRecursion}
use Rattle.x7_text.specs.Lines.{split}
use Rattle.x7_crc.specs.Checker.{check_of_bytes}
use Rattle.x7_listing.specs.declared.assembler.AsmFault.{AsmFault}
use Rattle.x7_listing.specs.declared.assembler.AsmFault.TheVariants as fault
use Rattle.x7_header.specs.Header.{HeaderContents, header_bytes}
use Rattle.x7_listing.specs.BitLine.{bit_text, FitsHeader}
use Rattle.x7_listing.specs.Line.{Line, line_bytes, FitsLine, IsLine, text_of}

-- bytes with those of one line more
abbrev pub with_line : List ℕ → Line → List ℕ
with_line bytes l = bytes ++ line_bytes (check_of_bytes bytes) l

-- the bytes of lines
abbrev pub assembled : List Line → List ℕ
assembled ls = fold with_line [] ls

-- the first texts are those of these lines, whose bytes are within the limit, and these texts are left
pub record BeginsWithLines (limit : ℕ) (all : List (List ℕ)) (lines : List Line) (left : List (List ℕ)) : Type 0 where
  pub texts : all ≡ map text_of lines ++ left
  pub fits : AllByRecursion FitsLine lines
  pub within : length (assembled lines) ≤ limit

-- the texts are those of lines, and these are their bytes, which are within the limit
pub record AssembleTo (limit : ℕ) (all : List (List ℕ)) (bytes : List ℕ) : Type 0 where
  pub lines : List Line
  pub begins : BeginsWithLines limit all lines []
  pub bytes_are : bytes ≡ assembled lines

-- text n is the first that is of no line, and the bytes before it are within the limit
pub record IsFirstBadText (limit : ℕ) (all : List (List ℕ)) (n : ℕ) : Type 0 where
  pub lines : List Line
  pub bad : List ℕ
  pub left : List (List ℕ)
  pub begins : BeginsWithLines limit all lines (bad ∷ left)
  pub count : n ≡ length lines + 1
  pub no_line : (l : Line) → IsLine bad l → ⊥

-- text n is the first at which the bytes pass the limit, and each text up to and with it is a line's
pub record PassesLimitAt (limit : ℕ) (all : List (List ℕ)) (n : ℕ) : Type 0 where
  pub lines : List Line
  pub last : Line
  pub left : List (List ℕ)
  pub begins : BeginsWithLines limit all lines (text_of last ∷ left)
  pub fits : FitsLine last
  pub count : n ≡ length lines + 1
  pub passes : limit < length (assembled (lines ++ last ∷ []))

-- what texts of lines assemble to: their bytes, or their first fault; want of memory is never theirs
abbrev pub AreAsm : ℕ → List (List ℕ) → Result (List ℕ) AsmFault → Type 0
AreAsm limit all (Ok bytes) = AssembleTo limit all bytes
AreAsm limit all (Err (fault.Line n)) = IsFirstBadText limit all n
AreAsm limit all (Err (fault.TooLong n)) = PassesLimitAt limit all n
AreAsm limit all (Err fault.NoMemory) = ⊥

-- how many bytes a text may stand for at most: 64 MiB
abbrev pub asm_limit : ℕ
asm_limit = 67108864

-- the outcome of a text by that of what stands after its first line, where this line stands for the bytes `prefix`
abbrev pub after_one_line : List ℕ → Result (List ℕ) AsmFault → Result (List ℕ) AsmFault
after_one_line prefix (Ok bytes) = Ok (prefix ++ bytes)
after_one_line prefix (Err (fault.Line n)) = Err (fault.Line (n + 1))
after_one_line prefix (Err (fault.TooLong n)) = Err (fault.TooLong (n + 1))
after_one_line prefix (Err fault.NoMemory) = Err fault.NoMemory

-- the outcome of texts of lines after a line that stands for these bytes
pub record IsOutcomeAfter (prefix : List ℕ) (others : List (List ℕ)) (outcome : Result (List ℕ) AsmFault) : Type 0 where
  pub rest : Result (List ℕ) AsmFault
  pub lines : AreAsm (asm_limit - length prefix) others rest
  pub outcome_is : outcome ≡ after_one_line prefix rest

-- the first text is a header's line, and the outcome is that of the others after it; the check leaves the header out
pub record IsHeaded (all : List (List ℕ)) (outcome : Result (List ℕ) AsmFault) : Type 0 where
  pub header : HeaderContents
  pub fits : FitsHeader header
  pub others : List (List ℕ)
  pub texts : all ≡ bit_text header ∷ others
  pub follows : IsOutcomeAfter (header_bytes header) others outcome

-- the first text is no header's line
abbrev pub HasNoHeaderLine : List (List ℕ) → Type 0
HasNoHeaderLine all = (x : HeaderContents) (others : List (List ℕ)) → FitsHeader x → all ≢ bit_text x ∷ others

-- what texts of lines, which may begin with a header's, assemble to
abbrev pub AreHeadedAsm : List (List ℕ) → Result (List ℕ) AsmFault → Type 0
AreHeadedAsm all outcome = IsHeaded all outcome ⊎ (HasNoHeaderLine all × AreAsm asm_limit all outcome)

-- what a text assembles to: a header's line first or none, and lines
abbrev pub IsAsm : List ℕ → Result (List ℕ) AsmFault → Type 0
IsAsm text outcome = AreHeadedAsm (split text) outcome

-- the text has an outcome: its bytes or a fault
abbrev pub HasOutcome : List ℕ → Type 0
HasOutcome text = (outcome : Result (List ℕ) AsmFault) × IsAsm text outcome

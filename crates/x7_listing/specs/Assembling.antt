-- A text that is assembled line by line: what its lines gave so far (this project's choice).
use Rattle.std.specs.Prelude.{◌≡◌, ◌⊎◌, ℕ, ◌+◌, ◌-◌, ◌<◌, ◌≤◌, Bool, true, false, List, [], ◌∷◌, ◌++◌, drop, take, length, Result, Ok, Err, MatchResult}
use Rattle.std.specs.List.{AllByRecursion, flat_map}
use Rattle.x7_crc.specs.Checker.{CheckerState, KeepsCheckOf}
use Rattle.x7_header.specs.Header.{HeaderContents, header_bytes, longest_header}
use Rattle.x7_text.specs.Row.{bytes_row_size}
use Rattle.x7_listing.specs.BitLine.{bit_text, FitsHeader}
use Rattle.x7_listing.specs.Line.{Line, line_bytes, FitsLine, IsNeitherCommentNorCheck, ended_texts}
use Rattle.x7_listing.specs.Assembly.{AreHeadedAsm, asm_limit, assembled, BeginsWithLines, HasNoHeaderLine}
use Rattle.x7_listing.specs.declared.assembler.AsmFault.{AsmFault}
use Rattle.x7_listing.specs.declared.assembler.AsmFault.TheVariants as fault

-- the first `n` texts are those of lines, whose bytes these are, within the limit, and the others are left
pub record LinesAreRead (limit : ℕ) (all left : List (List ℕ)) (bytes : List ℕ) (n : ℕ) : Type 0 where
  pub lines : List Line
  pub begins : BeginsWithLines limit all lines left
  pub bytes_are : bytes ≡ assembled lines
  pub count : n ≡ length lines

-- the first text is the line of a header, whose bytes are `prefix`, and the others follow it: one text is read
pub record OpensHeaded (all others : List (List ℕ)) (prefix : List ℕ) (n : ℕ) : Type 0 where
  pub header : HeaderContents
  pub fits : FitsHeader header
  pub texts : all ≡ bit_text header ∷ others
  pub prefix_is : prefix ≡ header_bytes header
  pub count : n ≡ 1

-- the first text is no header's line: none is read, and no byte stands before those of lines
pub record OpensPlain (all others : List (List ℕ)) (prefix : List ℕ) (n : ℕ) : Type 0 where
  pub no_head : HasNoHeaderLine all
  pub texts : all ≡ others
  pub prefix_is : prefix ≡ []
  pub count : n ≡ 0

-- of all texts, `n` stand for a header, one or none, whose bytes are `prefix`; the others follow
abbrev pub OpensText : List (List ℕ) → List (List ℕ) → List ℕ → ℕ → Type 0
OpensText all others prefix n = OpensHeaded all others prefix n ⊎ OpensPlain all others prefix n

-- what lines gave: the bytes so far, the place where those of lines begin (after a header's), their checker, and for
-- how many bytes there is room in all
pub record Output : Type 0 where
  pub out : List ℕ
  pub start : ℕ
  pub checker : CheckerState
  pub room : ℕ

-- an `Output` with these fields
abbrev pub output_of : List ℕ → ℕ → CheckerState → ℕ → Output
output_of out start checker room = record { out = out; start = start; checker = checker; room = room }

-- there is room in an output for the bytes of one line more: 32 at most, a row
abbrev pub HasLineRoom : Output → Type 0
HasLineRoom b = length b.out + bytes_row_size ≤ b.room

-- the bytes of lines begin within the bytes so far, and the checker keeps their check
pub record IsSoundOutput (out : List ℕ) (start : ℕ) (checker : CheckerState) : Type 0 where
  pub begun : start ≤ length out
  pub keeps : KeepsCheckOf checker (drop start out)

-- `n` of the texts are read, a header's line included, and the others are left: the output has the bytes of those read,
-- `asm_limit` at most, those of lines from `start` on, whose check is kept
pub record TextsAreRead (all left : List (List ℕ)) (b : Output) (n : ℕ) : Type 0 where
  pub others : List (List ℕ)
  pub first : ℕ
  pub read : ℕ
  pub long : b.start ≤ length b.out
  pub short : b.start ≤ longest_header
  pub keeps : KeepsCheckOf b.checker (drop b.start b.out)
  pub opens : OpensText all others (take b.start b.out) first
  pub went : LinesAreRead (asm_limit - b.start) others left (drop b.start b.out) read
  pub count_is : n ≡ first + read

-- none of the texts is read yet, and the output has no byte
pub record Unbegun (all left : List (List ℕ)) (b : Output) : Type 0 where
  pub texts : all ≡ left
  pub out_is : b.out ≡ []
  pub start_is : b.start ≡ 0
  pub keeps : KeepsCheckOf b.checker []

-- `n` of the texts are read, and the others are left; or, where the first one is still to be read, none is read yet
abbrev pub AreReadOrUnbegun : Bool → List (List ℕ) → List (List ℕ) → Output → ℕ → Type 0
AreReadOrUnbegun true all left b n = TextsAreRead all left b n
AreReadOrUnbegun false all left b n = Unbegun all left b

-- the text begins with `count` whole lines, none of which is a comment or the check; their bytes were appended, and the
-- rest is left
pub record AppendsLines (text rest old new : List ℕ) (count : ℕ) : Type 0 where
  pub lines : List Line
  pub fit : AllByRecursion FitsLine lines
  pub listed : AllByRecursion IsNeitherCommentNorCheck lines
  pub text_is : text ≡ ended_texts lines ++ rest
  pub appended : new ≡ old ++ flat_map (line_bytes 0) lines
  pub count_is : count ≡ length lines

-- the first `size` bytes of the text are `count` whole lines, one at least, none of which is a comment or the check;
-- their bytes were appended
pub record AppendsFirstLines (text old new : List ℕ) (size count : ℕ) : Type 0 where
  pub not_empty : 0 < size
  pub within : size ≤ length text
  pub counted : count ≤ size
  pub takes : AppendsLines text (drop size text) old new count

-- whether there is a line among those that were read
abbrev pub has_any : List (List ℕ) → Bool
has_any [] = false
has_any (t ∷ ts) = true

-- these first lines of a text gave this output, whatever lines follow
abbrev pub IsOutputOf : Output → List (List ℕ) → Type 0
IsOutputOf b lines = (left : List (List ℕ)) → AreReadOrUnbegun (has_any lines) (lines ++ left) left b (length lines)

-- these first lines of a text gave this output, and once one was read there is room for the next
pub record HasReadWithRoom (b : Output) (lines : List (List ℕ)) : Type 0 where
  pub read : IsOutputOf b lines
  pub room : has_any lines ≡ true → HasLineRoom b

-- memory may be wanting at a line: it is the first, or all lines up to and with it assemble
abbrev pub IsFirstOrGood : List (List ℕ) → List ℕ → Type 0
IsFirstOrGood lines line = (lines ≡ []) ⊎ ((bytes : List ℕ) × AreHeadedAsm (lines ++ line ∷ []) (Ok bytes))

-- a text of these lines has this fault; want of memory says nothing
abbrev pub HasAsmFault : AsmFault → List (List ℕ) → Type 0
HasAsmFault f lines = (f ≡ fault.NoMemory) ⊎ AreHeadedAsm lines (Err f)

-- a text's first line is read: from no output to that of one line, whatever lines follow
abbrev pub ReadsFirst : Output → Output → List ℕ → Type 0
ReadsFirst old new line = (all left : List (List ℕ)) → Unbegun all (line ∷ left) old → TextsAreRead all left new 1

-- a text's first line is refused: each text that begins with it has this fault; want of memory says nothing
abbrev pub FailsFirst : Output → List ℕ → AsmFault → Type 0
FailsFirst old line f = (f ≡ fault.NoMemory) ⊎ ((all left : List (List ℕ)) → Unbegun all (line ∷ left) old → AreHeadedAsm all (Err f))

-- line n, counted from 1, is read after others, whatever lines follow
abbrev pub ReadsNext : Output → Output → ℕ → List ℕ → Type 0
ReadsNext old new n line =
    (all left : List (List ℕ)) (k : ℕ) → n ≡ k + 1 → TextsAreRead all (line ∷ left) old k → TextsAreRead all left new n

-- line n, counted from 1, is refused after others: each text that they begin has this fault; want of memory says
-- nothing
abbrev pub FailsNext : Output → ℕ → List ℕ → AsmFault → Type 0
FailsNext old n line f = (f ≡ fault.NoMemory) ⊎ ((all left : List (List ℕ)) (k : ℕ) → n ≡ k + 1
    → TextsAreRead all (line ∷ left) old k → AreHeadedAsm all (Err f))

-- after these lines one more was read, and there is room for the next; or each text that goes on so has the fault
abbrev pub ReadsOneMore : List (List ℕ) → List ℕ → Result (Unit {0}) AsmFault → Output → Type 0
ReadsOneMore lines line result new =
    MatchResult result (λ _. HasReadWithRoom new (lines ++ line ∷ [])) (λ f. (left : List (List ℕ)) → HasAsmFault f (lines ++ line ∷ left))

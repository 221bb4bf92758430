-- A text that comes in pieces, and is taken line by line (this project's choice).
use Rattle.std.specs.Prelude.{◌≡◌, ◌⊎◌, ◌+◌, ◌<◌, ℕ, List, [], ◌∷◌, ◌++◌, length, Option, MatchOption, Result, MatchResult, IfErr}
use Rattle.std.specs.Borrow.{Bor}
use Rattle.x7_words.specs.Input.{taken_bytes_limit}
use Rattle.x7_text.specs.Lines.{split}

-- what a reader keeps: what takes the lines, the beginning of the line that comes, and how many lines were taken
pub record ReaderState (B : Type 0) : Type 0 where
  pub taker : B
  pub held : List ℕ
  pub count : ℕ

-- a text is these lines, each with its end, and a rest without a line end
abbrev pub IsCut : List ℕ → List (List ℕ) → List ℕ → Type 0
IsCut text lines rest = split text ≡ lines ++ rest ∷ []

-- A reader that was given this text: its lines were taken, and what has no end yet is held.
pub record StandsFor {B : Type 0} (taken : B → List (List ℕ) → Type 0) (r : ReaderState B) (text : List ℕ) : Type 0 where
  pub lines : List (List ℕ)
  pub cut : IsCut text lines r.held
  pub took : taken r.taker lines
  pub count : r.count ≡ length lines

-- after these lines every text that begins with `text` fails
abbrev pub FailsAfter : (List (List ℕ) → Type 0) → List (List ℕ) → List ℕ → Type 0
FailsAfter fails lines text = (more : List ℕ) → fails (lines ++ split (text ++ more))

-- every text that begins with `text` fails
abbrev pub FailsFrom : (List (List ℕ) → Type 0) → List ℕ → Type 0
FailsFrom fails text = (more : List ℕ) → fails (split (text ++ more))

-- a taker took these lines and gets the next one, which is line n, counted from 1
pub record GetsLine {B : Type 0} (taken : B → List (List ℕ) → Type 0) (b : B) (lines : List (List ℕ)) (n : ℕ) : Type 0 where
  pub number : n ≡ length lines + 1
  pub took : taken b lines

-- a taker took these lines, n of them, and gets a text: n and the bytes of the text are fewer than 2^63 together
pub record GetsText {B : Type 0} (taken : B → List (List ℕ) → Type 0) (b : B) (lines : List (List ℕ)) (n : ℕ) (text : List ℕ) : Type 0 where
  pub count : n ≡ length lines
  pub few : n + length text < taken_bytes_limit
  pub took : taken b lines

-- a text of these lines gives what a call answers, or is refused for the fault that it answers
abbrev pub GivesOrFails : {A F : Type 0} → (A → List (List ℕ) → Type 0) → (F → List (List ℕ) → Type 0) → List (List ℕ) → Result A F → Type 0
GivesOrFails gives fails lines result = MatchResult result (λ out. gives out lines) (λ fault. fails fault lines)

-- after some lines, those of a text that have their end were taken, which makes n lines in all, and a rest is left
pub record TakesWhole {B : Type 0} (taken : B → List (List ℕ) → Type 0) (lines : List (List ℕ)) (text : List ℕ) (b : B) (rest : List ℕ) (n : ℕ) : Type 0 where
  pub more : List (List ℕ)
  pub cut : IsCut text more rest
  pub took : taken b (lines ++ more)
  pub count : n ≡ length (lines ++ more)

-- a reader was given a prefix of a piece after the text, and holds nothing
pub record TakesPrefix {B : Type 0} (taken : B → List (List ℕ) → Type 0) (r : ReaderState B) (text piece rest : List ℕ) : Type 0 where
  pub prefix : List ℕ
  pub parts : piece ≡ prefix ++ rest
  pub clear : r.held ≡ []
  pub stands : StandsFor taken r (text ++ prefix)

module _ {B F : Type 0} (taken : B → List (List ℕ) → Type 0) (fails : F → List (List ℕ) → Type 0) where
  -- After these lines one more was taken, which has its end. Or every text that goes on so fails.
  abbrev pub TakesEndedLine : List (List ℕ) → List ℕ → Result (Unit {0}) F → B → Type 0
  TakesEndedLine lines line result new =
      MatchResult result (λ _. taken new (lines ++ line ∷ [])) (λ fault. (more : List ℕ) → fails fault (lines ++ line ∷ split more))

  -- After some lines those of a text that have their end were taken, and the answer is what is left of the text and how
  -- many lines were taken in all. Or every text that goes on so fails.
  abbrev pub TakesEndedLines : List (List ℕ) → List ℕ → Result (Bor (List ℕ) × ℕ) F → B → Type 0
  TakesEndedLines lines text result new =
      MatchResult result (λ left. TakesWhole taken lines text new left.0.now left.1) (λ fault. FailsAfter (fails fault) lines text)

  -- Whatever text of fewer than 2^63 bytes, the piece among them, a reader stood for: after a call the reader stands
  -- for that text and the piece, or every text that begins so fails.
  abbrev pub TakesTextPiece : {A : Type 0} → ReaderState B → List ℕ → Result A F → (A → ReaderState B) → Type 0
  TakesTextPiece old piece result new =
      (text : List ℕ) → length (text ++ piece) < taken_bytes_limit → StandsFor taken old text
      → MatchResult result (λ x. StandsFor taken (new x) (text ++ piece)) (λ fault. FailsFrom (fails fault) (text ++ piece))

  -- Whatever text of fewer than 2^63 bytes, the piece among them, a reader stood for: the piece was taken up to the end
  -- of the line that was held, and the rest after it is the answer. Or, where no line ends in the piece, all of it was
  -- taken and the answer is none. Or every text that begins so fails.
  abbrev pub CompletesLine : {R : Type 0} → (R → List ℕ) → ReaderState B → List ℕ → Result (Option R) F → ReaderState B → Type 0
  CompletesLine bytes old piece result new =
      (text : List ℕ) → length (text ++ piece) < taken_bytes_limit → StandsFor taken old text
      → MatchResult result
      (λ found. MatchOption found (StandsFor taken new (text ++ piece)) (λ rest. TakesPrefix taken new text piece (bytes rest)))
      (λ fault. FailsFrom (fails fault) (text ++ piece))

-- ---- where memory may be wanting

-- after some lines, memory may be wanting at one of the lines of a text
pub record WantsAt (wants : List (List ℕ) → List ℕ → Type 0) (lines : List (List ℕ)) (text : List ℕ) : Type 0 where
  pub before : List (List ℕ)
  pub line : List ℕ
  pub after : List (List ℕ)
  pub texts : split text ≡ before ++ line ∷ after
  pub wanting : wants (lines ++ before) line

-- after some lines, all lines of a text that have their end were taken, and the beginning of one that comes is to be
-- held
pub record HoldsBeginning {B : Type 0} (taken : B → List (List ℕ) → Type 0) (lines : List (List ℕ)) (text : List ℕ) : Type 0 where
  pub taker : B
  pub more : List (List ℕ)
  pub rest : List ℕ
  pub cut : IsCut text more rest
  pub took : taken taker (lines ++ more)
  pub begun : rest ≡ [] → ⊥

module _ {B : Type 0} (taken : B → List (List ℕ) → Type 0) (wants : List (List ℕ) → List ℕ → Type 0) where
  -- after some lines, memory may be wanting as a piece is taken: at one of its lines, or to hold a line's beginning
  abbrev pub WantsIn : List (List ℕ) → List ℕ → Type 0
  WantsIn lines piece = WantsAt wants lines piece ⊎ HoldsBeginning taken lines piece

  -- where a reader held no beginning of a line, memory is wanting only in the piece that a call took
  abbrev pub WantsOnlyIn : {A F : Type 0} → (F → Type 0) → ReaderState B → List ℕ → Result A F → Type 0
  WantsOnlyIn is_want old piece result =
      (text : List ℕ) → length (text ++ piece) < taken_bytes_limit → old.held ≡ [] → (s : StandsFor taken old text)
      → IfErr result (λ fault. is_want fault → WantsIn s.lines piece)

-- What a text comes to: its statements, or the line on which its first bad statement begins, one that isn't of the
-- profile or lacks its `;` (this project's profile of SVF).
use Rattle.std.specs.Prelude.{◌≡◌, ℕ, zero, suc, false, List, [], ◌∷◌, length, Option, Some, None, Result, Ok, Err}
use Rattle.x7_svf.specs.Comment.{clean_text}
use Rattle.x7_svf.specs.Token.{Token, Word, Open, Close, End, TokenOnLine, tokens}
use Rattle.x7_svf.specs.Statement.{statement_of}
use Rattle.x7_svf.specs.declared.statement.Statement.{Statement}
use Rattle.x7_svf.specs.declared.fault.SvfFault.{SvfFault}
use Rattle.x7_svf.specs.declared.fault.SvfFault.TheVariants as fault

-- the tokens of a statement: those before the first `;`, or all
abbrev pub tokens_before_end : List TokenOnLine → List Token
tokens_before_end [] = []
tokens_before_end (t ∷ ts) = elim t.token as (λ t. List Token) [
  | Word w ↦ Word w ∷ tokens_before_end ts
  | Open ↦ Open ∷ tokens_before_end ts
  | Close ↦ Close ∷ tokens_before_end ts
  | End ↦ []
]

-- the tokens after the first `;`; none where there is no `;`
abbrev pub tokens_after_end : List TokenOnLine → Option (List TokenOnLine)
tokens_after_end [] = None
tokens_after_end (t ∷ ts) = elim t.token as (λ t. Option (List TokenOnLine)) [
  | Word w ↦ tokens_after_end ts
  | Open ↦ tokens_after_end ts
  | Close ↦ tokens_after_end ts
  | End ↦ Some ts
]

-- a statement counts only where it has its `;`
abbrev pub if_ended : Option (List TokenOnLine) → Option Statement → Option Statement
if_ended None s = None
if_ended (Some after) s = s

-- the statement that tokens begin with; none where it is bad or lacks its `;`
abbrev pub first_statement : List TokenOnLine → Option Statement
first_statement ts = if_ended (tokens_after_end ts) (statement_of (tokens_before_end ts))

-- the tokens after a statement, none where it never ends
abbrev pub tokens_if_ended : Option (List TokenOnLine) → List TokenOnLine
tokens_if_ended None = []
tokens_if_ended (Some after) = after

-- a statement before what the tokens after it come to, or the line on which it begins where it is bad
abbrev pub with_first : ℕ → Option Statement → Result (List Statement) SvfFault → Result (List Statement) SvfFault
with_first line None more = Err (fault.Line line)
with_first line (Some s) (Ok ss) = Ok (s ∷ ss)
with_first line (Some s) (Err f) = Err f

-- what tokens come to, where at most n statements are read and any token after these is at fault
abbrev pub outcome_by : ℕ → List TokenOnLine → Result (List Statement) SvfFault
outcome_by n [] = Ok []
outcome_by zero (t ∷ ts) = Err (fault.Line t.line)
outcome_by (suc n) (t ∷ ts) = with_first t.line (first_statement (t ∷ ts)) (outcome_by n (tokens_if_ended (tokens_after_end (t ∷ ts))))

-- what tokens come to
abbrev pub outcome : List TokenOnLine → Result (List Statement) SvfFault
outcome ts = outcome_by (length ts) ts

-- the tokens begin with a statement
abbrev pub BeginWithStatement : List TokenOnLine → Type 0
BeginWithStatement ts = (one : Statement) × (first_statement ts ≡ Some one)

-- the tokens of a text that may have comments; its lines count from 1
abbrev pub tokens_of : List ℕ → List TokenOnLine
tokens_of text = tokens 1 (clean_text false text)

-- what a text comes to: its statements, or the line on which its first bad statement begins
abbrev pub IsSvfOf : List ℕ → Result (List Statement) SvfFault → Type 0
IsSvfOf text r = outcome (tokens_of text) ≡ r

-- The statement of tokens (this project's profile of SVF).
use Rattle.std.specs.Prelude.{ℕ, if◌then◌else◌, List, [], ◌∷◌, Option, None, codes}
use Rattle.std.specs.List.{list_all}
use Rattle.x7_svf.specs.Token.{Token, Word, Open, Close, End}
use Rattle.x7_svf.specs.Words.{is_free_token, is_keyword, some_if, statement_if_words, words_of}
use Rattle.x7_svf.specs.Fields.{scan_of}
use Rattle.x7_svf.specs.declared.statement.ScannedRegister.TheVariants as scanned
use Rattle.x7_svf.specs.declared.statement.Statement.{Statement}
use Rattle.x7_svf.specs.declared.statement.Statement.TheVariants as statement

-- the statement of a keyword that is no scan's and the tokens after it
abbrev pub other_statement : List ℕ → List Token → Option Statement
other_statement k ts = if is_keyword k (codes "FREQUENCY") then some_if (list_all is_free_token ts) statement.Nothing else statement_if_words k (words_of ts)

-- the statement of a keyword and the tokens after it
abbrev pub statement_by : List ℕ → List Token → Option Statement
statement_by k ts = if is_keyword k (codes "SIR") then scan_of scanned.Instruction ts else (if is_keyword k (codes "SDR") then scan_of scanned.Data ts else other_statement k ts)

-- the statement of the tokens before its `;`; none where the profile has no such statement
abbrev pub statement_of : List Token → Option Statement
statement_of [] = None
statement_of (Word k ∷ ts) = statement_by k ts
statement_of (Open ∷ ts) = None
statement_of (Close ∷ ts) = None
statement_of (End ∷ ts) = None

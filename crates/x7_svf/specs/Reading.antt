-- What a step of the reader leaves of its text, and of the bytes that it saves of it (this project's choice). The bytes
-- saved are `saved` of `SourceState`.
use Rattle.std.specs.Prelude.{◌≡◌, ◌<◌, ◌≤◌, ℕ, length, drop}
use Rattle.x7_svf.specs.Token.{token_size}
use Rattle.x7_svf.specs.Source.{SourceState, tokens_left}
use Rattle.x7_svf.specs.Span.{StaysSaved}
use Rattle.x7_svf.specs.Svf.{tokens_after_end}
use Rattle.x7_svf.specs.declared.token.NextToken.{NextToken}

-- blanks were passed, or nothing was
pub record PassesBlanks (old new : SourceState) : Type 0 where
  pub tokens : tokens_left old ≡ tokens_left new
  pub saved : new.saved ≡ old.saved
  pub passed : length new.rest ≤ length old.rest

-- the token has one byte at least, and the rest of the text as many bytes as the token at least; that the rest begins
-- with the token, `left_from` says
pub record TokenComesNext (s : SourceState) (t : NextToken) : Type 0 where
  pub not_empty : 0 < token_size t
  pub within : token_size t ≤ length s.rest

-- `count` bytes were passed on the same line; what was saved stays, and more may be saved after it
pub record StepsOver (count : ℕ) (old new : SourceState) : Type 0 where
  pub prefix : StaysSaved old.saved new.saved
  pub line : new.line ≡ old.line
  pub rest : new.rest ≡ drop count old.rest

-- words and brackets before the next `;` were passed, or nothing was: the tokens after this `;` are as before; what was
-- saved stays, and more may be saved after it
pub record ReadsOn (old new : SourceState) : Type 0 where
  pub prefix : StaysSaved old.saved new.saved
  pub after : tokens_after_end (tokens_left old) ≡ tokens_after_end (tokens_left new)
  pub passed : length new.rest ≤ length old.rest

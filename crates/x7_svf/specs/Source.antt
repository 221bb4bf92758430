-- A text that is read from its first byte on, and the bytes that are saved of it (this project's choice).
use Rattle.std.specs.Prelude.{ℕ, ◌^◌, List, ◌∷◌, drop}
use Rattle.x7_svf.specs.Token.{TokenOnLine, token_of, tokens, token_size}
use Rattle.x7_svf.specs.declared.token.NextToken.{NextToken}

-- how many bytes a text may have at most: 512 MiB
abbrev pub svf_text_limit : ℕ
svf_text_limit = 2 ^ 29

-- the bytes saved of what was read, and the rest with the line, from 1, on which it begins
pub record SourceState : Type 0 where
  pub saved : List ℕ
  pub line : ℕ
  pub rest : List ℕ

-- the tokens of the rest
abbrev pub tokens_left : SourceState → List TokenOnLine
tokens_left s = tokens s.line s.rest

-- the tokens after the one that the rest begins with
abbrev pub left_after : SourceState → NextToken → List TokenOnLine
left_after s t = tokens s.line (drop (token_size t) s.rest)

-- the token that the rest begins with, and those after it
abbrev pub left_from : SourceState → NextToken → List TokenOnLine
left_from s t = record { line = s.line; token = token_of t s.rest } ∷ left_after s t

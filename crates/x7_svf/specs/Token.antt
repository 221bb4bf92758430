-- The tokens of a text without comments, each with the line on which it begins (this project's profile of SVF).
use Rattle.std.specs.Prelude.{ℕ, ◌+◌, ◌==◌, ◌||◌, not, Bool, if◌then◌else◌, List, [], ◌∷◌, take}
use Rattle.x7_words.specs.Characters.{close_bracket_byte, line_end_byte, open_bracket_byte, semicolon_byte, space_byte, tab_byte}
use Rattle.x7_svf.specs.declared.token.NextToken.{NextToken}
use Rattle.x7_svf.specs.declared.token.NextToken.TheVariants as next_token

-- a token of a text: a word, `(`, `)` or `;`
pub data Token : Type 0 where
  Word : (bytes : List ℕ) → Token
  Open : Token
  Close : Token
  End : Token

-- a token and the line of the text on which it begins
pub record TokenOnLine : Type 0 where
  pub line : ℕ
  pub token : Token

-- a byte is a blank: a space, a tab or a line end
abbrev pub is_blank_byte : ℕ → Bool
is_blank_byte c = c == space_byte || c == tab_byte || c == line_end_byte

-- a byte may stand in a word: it is no blank, no bracket and no `;`
abbrev pub is_word_byte : ℕ → Bool
is_word_byte c = not (is_blank_byte c || c == open_bracket_byte || c == close_bracket_byte || c == semicolon_byte)

-- the token of a byte that is no word's and no blank
abbrev pub byte_token : ℕ → Token
byte_token c = if c == open_bracket_byte then Open else (if c == close_bracket_byte then Close else End)

-- the number of the line on which the text goes on after a byte of this line
abbrev pub line_after : ℕ → ℕ → ℕ
line_after c line = if c == line_end_byte then line + 1 else line

-- tokens after a word's byte on this line: the byte begins the first token where that is a word, and else is a word by
-- itself before them
abbrev pub extend : ℕ → ℕ → List TokenOnLine → List TokenOnLine
extend line c [] = record { line = line; token = Word (c ∷ []) } ∷ []
extend line c (t ∷ ts) = elim t.token as (λ t. List TokenOnLine) [
  | Word bytes ↦ record { line = line; token = Word (c ∷ bytes) } ∷ ts
  | Open ↦ record { line = line; token = Word (c ∷ []) } ∷ t ∷ ts
  | Close ↦ record { line = line; token = Word (c ∷ []) } ∷ t ∷ ts
  | End ↦ record { line = line; token = Word (c ∷ []) } ∷ t ∷ ts
]

-- the tokens of a text that begins with this byte of a word, by the rest of the text and the tokens of the rest
abbrev pub with_word_byte : ℕ → ℕ → List ℕ → List TokenOnLine → List TokenOnLine
with_word_byte line c [] ts = record { line = line; token = Word (c ∷ []) } ∷ ts
with_word_byte line c (d ∷ ds) ts = if is_word_byte d then extend line c ts else record { line = line; token = Word (c ∷ []) } ∷ ts

-- the tokens of a text that begins with this byte of no word, by the tokens of the rest
abbrev pub with_other_byte : ℕ → ℕ → List TokenOnLine → List TokenOnLine
with_other_byte line c ts = if is_blank_byte c then ts else record { line = line; token = byte_token c } ∷ ts

-- the tokens of a text that begins on this line
abbrev pub tokens : ℕ → List ℕ → List TokenOnLine
tokens line [] = []
tokens line (c ∷ cs) = if is_word_byte c then with_word_byte line c cs (tokens (line_after c line) cs) else with_other_byte line c (tokens (line_after c line) cs)

-- the token that a text begins with, by its kind and, of a word, its count of bytes
abbrev pub token_of : NextToken → List ℕ → Token
token_of (next_token.Word n) text = Word (take n text)
token_of next_token.Open text = Open
token_of next_token.Close text = Close
token_of next_token.End text = End

-- how many bytes the token that comes next has
abbrev pub token_size : NextToken → ℕ
token_size (next_token.Word n) = n
token_size _ = 1

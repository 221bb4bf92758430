-- A text by its lines, which the byte 0A ends (this project's choice).
use Rattle.std.specs.Prelude.{ℕ, ◌==◌, Bool, true, false, if◌then◌else◌, List, [], ◌∷◌, ◌++◌}
use Rattle.x7_words.specs.Characters.{line_end_byte}

-- the byte that begins a comment: `#`
abbrev pub comment_byte : ℕ
comment_byte = 35

-- a byte at the beginning of the first line
abbrev pub on_first : ℕ → List (List ℕ) → List (List ℕ)
on_first c [] = (c ∷ []) ∷ []
on_first c (t ∷ ts) = (c ∷ t) ∷ ts

-- the lines of a text, without their ends: what stands between the line ends, so at least one line
abbrev pub split : List ℕ → List (List ℕ)
split [] = [] ∷ []
split (c ∷ cs) = if c == line_end_byte then [] ∷ split cs else on_first c (split cs)

-- the text of lines: they stand one after the other, with a line end between each two
abbrev pub joined_lines : List (List ℕ) → List ℕ
joined_lines [] = []
joined_lines (t ∷ []) = t
joined_lines (t ∷ u ∷ us) = t ++ line_end_byte ∷ joined_lines (u ∷ us)

-- the text has no line end
abbrev pub has_no_end : List ℕ → Bool
has_no_end [] = true
has_no_end (c ∷ cs) = if c == line_end_byte then false else has_no_end cs

-- a line without meaning: an empty one, and a comment, which `#` begins
abbrev pub means_nothing : List ℕ → Bool
means_nothing [] = true
means_nothing (c ∷ cs) = c == comment_byte

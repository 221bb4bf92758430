-- The lines of a text (this project's choice).
use Rattle.std.specs.Prelude.{ℕ, ◌-◌, ◌==◌, if◌then◌else◌, List, [], ◌∷◌, length, take, get_or}
use Rattle.x7_words.specs.Characters.{return_byte}
pub use Rattle.x7_text.specs.Lines.{on_first, split}

-- a line without a 0D at its end
abbrev pub without_return : List ℕ → List ℕ
without_return t = if get_or t (length t - 1) 0 == return_byte then take (length t - 1) t else t

-- lines without the 0D of their ends; the last, which has no end, as it is
abbrev pub bare_lines : List (List ℕ) → List (List ℕ)
bare_lines [] = []
bare_lines (t ∷ []) = t ∷ []
bare_lines (t ∷ u ∷ ts) = without_return t ∷ bare_lines (u ∷ ts)

-- the lines of a text without their ends, which are 0A or 0D 0A; the last is what stands after the last end, empty
-- where nothing does; a 0D without an 0A after it ends no line and stays
abbrev pub lines_of : List ℕ → List (List ℕ)
lines_of text = bare_lines (split text)

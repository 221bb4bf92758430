-- A text with blanks for its comments and for each 0D before 0A (this project's profile of SVF).
use Rattle.std.specs.Prelude.{ℕ, ◌==◌, ◌||◌, ◌&&◌, not, Bool, true, false, if◌then◌else◌, List, [], ◌∷◌}
use Rattle.x7_words.specs.Characters.{exclamation_byte, line_end_byte, return_byte, slash_byte, space_byte}

-- the text begins with this byte
abbrev pub has_first_byte : ℕ → List ℕ → Bool
has_first_byte wanted [] = false
has_first_byte wanted (byte ∷ after) = byte == wanted

-- a comment begins at this byte, which these follow: `!` or `//`
abbrev pub begins_comment : ℕ → List ℕ → Bool
begins_comment byte after = byte == exclamation_byte || (byte == slash_byte && has_first_byte slash_byte after)

-- the byte, which these follow, is one of a comment; the first argument says whether the byte before it was one
abbrev pub is_inside : Bool → ℕ → List ℕ → Bool
is_inside true byte after = not (byte == line_end_byte)
is_inside false byte after = begins_comment byte after

-- what stands for a byte, by whether it is one of a comment: a blank for those of comments and for 0D before 0A, and
-- else the byte itself
abbrev pub stand_in : Bool → ℕ → List ℕ → ℕ
stand_in is_in_comment byte after = if is_in_comment then space_byte else (if byte == return_byte && has_first_byte line_end_byte after then space_byte else byte)

-- the text with what stands for each byte; the first argument says whether the byte before the text is one of a comment
abbrev pub clean_text : Bool → List ℕ → List ℕ
clean_text after_comment_byte [] = []
clean_text after_comment_byte (byte ∷ after) =
    stand_in (is_inside after_comment_byte byte after) byte after ∷ clean_text (is_inside after_comment_byte byte after) after

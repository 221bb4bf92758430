-- Rows of words or bytes, and the lines that show them (this project's choice).
use Rattle.std.specs.Prelude.{ℕ, ◌+◌, ◌*◌, ◌==◌, ◌≡◌, ◌<◌, ◌≤◌, if◌then◌else◌, List, [], ◌∷◌, ◌++◌, length, codes, Vec}
use Rattle.std.specs.List.{flat_map}
use Rattle.std.specs.declared.alloc.Global.{Global}
use Rattle.x7_words.specs.Word.{AreBytes, AreWords}
use Rattle.x7_text.specs.Appends.{Appends}
use Rattle.x7_text.specs.Digits.{hex_byte, hex_word}
use Rattle.x7_words.specs.Characters.{line_end_byte, space_byte}

-- a row that has elements, and nothing for an empty one
abbrev pub row_if_any : List ℕ → List (List ℕ)
row_if_any [] = []
row_if_any (x ∷ xs) = (x ∷ xs) ∷ []

-- the elements by rows of n, of which the first begins with the elements of an open row
abbrev pub rows_from : ℕ → List ℕ → List ℕ → List (List ℕ)
rows_from n open_row [] = row_if_any open_row
rows_from n open_row (x ∷ xs) = if length open_row + 1 == n then (open_row ++ x ∷ []) ∷ rows_from n [] xs else rows_from n (open_row ++ x ∷ []) xs

-- the elements by rows of n, of which the last may be shorter
abbrev pub rows : ℕ → List ℕ → List (List ℕ)
rows n xs = rows_from n [] xs

-- all rows but the last have n elements, and the last has one to n
abbrev pub AreFullButLast : ℕ → List (List ℕ) → Type 0
AreFullButLast n [] = Unit {0}
AreFullButLast n (r ∷ []) = (0 < length r) × (length r ≤ n)
AreFullButLast n (r ∷ s ∷ rs) = (length r ≡ n) × AreFullButLast n (s ∷ rs)

-- how many words a full `data` line has
abbrev pub row_words : ℕ
row_words = 8

-- how many bytes a full `bytes` line has
abbrev pub bytes_row_size : ℕ
bytes_row_size = 32

-- the line of a row: its keyword, the text of each element, and the line end
abbrev pub line : List ℕ → (ℕ → List ℕ) → List ℕ → List ℕ
line keyword text row = keyword ++ flat_map text row ++ line_end_byte ∷ []

-- a word of a `data` line: a space and eight digits
abbrev pub spaced : ℕ → List ℕ
spaced w = space_byte ∷ hex_word w

-- bytes as `bytes` lines, the last of which may be shorter
abbrev pub bytes_text : List ℕ → List ℕ
bytes_text bs = flat_map (line (codes "bytes ") hex_byte) (rows bytes_row_size bs)

-- words as `data` lines, the last of which may be shorter
abbrev pub data_text : List ℕ → List ℕ
data_text ws = flat_map (line (codes "data") spaced) (rows row_words ws)

-- how many bytes of text a full `data` line has: four of its keyword, nine of each word, and the line end
abbrev pub data_line_size : ℕ
data_line_size = 77

-- how many bytes of text a full `bytes` line has: six of its keyword and a space, two of each byte, and the line end
abbrev pub bytes_line_size : ℕ
bytes_line_size = 71

-- ---- the lines of rows element by element, where `in_line` elements stand in the open line (0 where none is open)

-- what stands before an element of a line: the keyword before the first one, and else nothing
abbrev pub line_start : List ℕ → ℕ → List ℕ
line_start keyword in_line = if in_line == 0 then keyword else []

-- what stands after an element of a line: the line end after the one that fills it, and else nothing
abbrev pub line_end : ℕ → ℕ → List ℕ
line_end n in_line = if in_line + 1 == n then line_end_byte ∷ [] else []

-- the count of elements in the open line after one more: 0 where that fills the line
abbrev pub next_in_line : ℕ → ℕ → ℕ
next_in_line n in_line = if in_line + 1 == n then 0 else in_line + 1

-- the text that one more element adds
abbrev pub element_text : ℕ → List ℕ → (ℕ → List ℕ) → ℕ → ℕ → List ℕ
element_text n keyword text in_line x = line_start keyword in_line ++ text x ++ line_end n in_line

-- the text that elements add; the last line stays open unless it is full
abbrev pub open_text : ℕ → List ℕ → (ℕ → List ℕ) → ℕ → List ℕ → List ℕ
open_text n keyword text in_line [] = []
open_text n keyword text in_line (x ∷ xs) = element_text n keyword text in_line x ++ open_text n keyword text (next_in_line n in_line) xs

-- the count of elements in the open line after some elements
abbrev pub in_line_after : ℕ → ℕ → List ℕ → ℕ
in_line_after n in_line [] = in_line
in_line_after n in_line (x ∷ xs) = in_line_after n (next_in_line n in_line) xs

-- the text that words add to `data` lines, of which the open one has `in_line` words
abbrev pub open_data : ℕ → List ℕ → List ℕ
open_data in_line ws = open_text row_words (codes "data") spaced in_line ws

-- the text that bytes add to `bytes` lines, of which the open one has `in_line` bytes
abbrev pub open_bytes : ℕ → List ℕ → List ℕ
open_bytes in_line bs = open_text bytes_row_size (codes "bytes ") hex_byte in_line bs

-- a bound on the bytes of text that one word adds: the line's keyword, a space and eight digits, and the line end
abbrev pub word_text_limit : ℕ
word_text_limit = 14

-- a bound on the bytes of text that one byte adds: the line's keyword and a space, two digits, and the line end
abbrev pub byte_text_limit : ℕ
byte_text_limit = 9

-- a bound on the bytes of text that n bytes add to rows, whatever stands in the open line: three for each, and sixteen
abbrev pub rows_text_limit : ℕ → ℕ
rows_text_limit n = 3 * n + 16

-- bytes were put to `bytes` lines, as text of at most `most` bytes: the open line had `in_line` bytes, and now has
-- `next` of them
pub record PutsBytes (in_line : ℕ) (bytes : List ℕ) (old new : Vec ℕ Global) (most next : ℕ) : Type 0 where
  pub count : next ≡ in_line_after bytes_row_size in_line bytes
  pub below : next < bytes_row_size
  pub appends : Appends old new (open_bytes in_line bytes) most

-- words were put to `data` lines, as text of at most `most` bytes: the open line had `in_line` words, and now has
-- `next` of them
pub record PutsWords (in_line : ℕ) (words : List ℕ) (old new : Vec ℕ Global) (most next : ℕ) : Type 0 where
  pub count : next ≡ in_line_after row_words in_line words
  pub below : next < row_words
  pub appends : Appends old new (open_data in_line words) most

-- the end of an open line, and nothing where none is open
abbrev pub close : ℕ → List ℕ
close in_line = if in_line == 0 then [] else line_end_byte ∷ []

-- one to 32 bytes, as one `bytes` line shows them
abbrev pub IsByteRow : List ℕ → Type 0
IsByteRow bytes = AreBytes bytes × (0 < length bytes) × (length bytes ≤ bytes_row_size)

-- one to eight words, as one `data` line shows them
abbrev pub IsWordRow : List ℕ → Type 0
IsWordRow words = AreWords words × (0 < length words) × (length words ≤ row_words)

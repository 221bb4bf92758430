-- What stands on a sheet (`src/list/fast/sheet.rt`) after short runs were put there (this project's choice).
use Rattle.std.specs.Prelude.{◌≡◌, ℕ, ◌+◌, ◌*◌, List, [], ◌∷◌, ◌++◌, take}
use Rattle.x7_words.specs.Word.{words_of_bytes}
use Rattle.x7_packets.specs.Cutter.{CutterState}
use Rattle.x7_packets.specs.Packet.{payload_steps}
use Rattle.x7_text.specs.Row.{close, data_line_size, in_line_after, open_data, row_words}
use Rattle.x7_listing.specs.Fast.AtOnce.{write_head_text}
use Rattle.x7_listing.specs.Pens.{ListsMore, lister_with}
use Rattle.x7_listing.specs.Lister.{ListerState, open_words}
use Rattle.x7_listing.specs.declared.list.fast.short_runs.PutRun.{PutRun}
use Rattle.x7_listing.specs.declared.list.pen.state.OpenWords.{OpenWords}
use Rattle.x7_listing.specs.declared.list.pen.state.Pen.TheVariants.{Session}

-- ---- how many bytes of text a step puts on a sheet at most

-- how many bytes a row of a table has (`src/line/tables.rt`)
abbrev pub table_row_size : ℕ
table_row_size = 32

-- how many bytes the lines of a write of one word have at most, with an open line's end before them: that end, a row, a
-- word's digits and a line end
abbrev pub one_write_lines_size : ℕ
one_write_lines_size = 1 + table_row_size + 8 + 1

-- how many bytes the line of a short write's header has at most, with an open line's end before it: that end, a row,
-- two digits and a line end
abbrev pub head_line_size : ℕ
head_line_size = 1 + table_row_size + 2 + 1

-- how many bytes the lines of a short write have at most: its header's, and two full `data` lines
abbrev pub short_write_lines_size : ℕ
short_write_lines_size = head_line_size + 2 * data_line_size

-- how many bytes the lines of 32 no-ops have, with an open line's end before them: that end, and four for each `nop`
-- and its line end
abbrev pub nop_lines_size : ℕ
nop_lines_size = 1 + 32 * 4

-- how many bytes the lines of a gap of 31 bytes and of the sync word after it have: the word `bytes` and a space, two
-- digits for each byte and a line end, and `sync` with a line end
abbrev pub gap_lines_size : ℕ
gap_lines_size = 6 + 31 * 2 + 1 + 5

-- ---- what stands there

-- what a write of one word adds after an open line of `in_line` words: that line's end, its header's line, and the line
-- of its word, which stays open where it is a `data` line
abbrev pub one_write_text : ℕ → ℕ → ℕ → List ℕ
one_write_text in_line register w = close in_line ++ write_head_text register 1 ++ open_words 0 (payload_steps register (w ∷ []))

-- after a shown text the words of a payload stand in new `data` lines; `in_line` has how many words stand in the last
-- one, 0 where it is full
pub record ShowsWords (payload shown all : List ℕ) (in_line : OpenWords) : Type 0 where
  pub text : all ≡ shown ++ open_data 0 (words_of_bytes payload)
  pub count : in_line.count ≡ in_line_after row_words 0 (words_of_bytes payload)

-- a lister in a session with this open line, whose text is any text and then the first bytes of a sheet
abbrev pub on_sheet : CutterState → OpenWords → List ℕ → ℕ → List ℕ → ListerState
on_sheet cutter in_line sheet len text = lister_with cutter (Session in_line) (text ++ take len sheet)

-- a lister in a session with the open line that a run left, whose text is any text and then what the run left on a
-- sheet
abbrev pub on_sheet_after : CutterState → PutRun → List ℕ → List ℕ → ListerState
on_sheet_after cutter run sheet = on_sheet cutter run.in_line sheet run.len

-- whatever text stands before: what the old lister has listed, the new one has listed, and these bytes after it
abbrev pub ListsMoreAfter : (List ℕ → ListerState) → (List ℕ → ListerState) → List ℕ → Type 0
ListsMoreAfter old new more = (text : List ℕ) → ListsMore (old text) (new text) more

-- The lines of short writes, which are listed at once, and the rows of the tables that hold them (this project's
-- choice).
use Rattle.std.specs.Prelude.{◌≡◌, ℕ, suc, List, [], ◌∷◌, ◌++◌, codes, get_or, take}
use Rattle.x7_packets.specs.PacketWords.{type1_write_header}
use Rattle.x7_packets.specs.declared.header.Step.TheVariants.{Open}
use Rattle.x7_regs.specs.Register.{number_of, reg_name}
use Rattle.x7_regs.specs.declared.register.Reg.TheVariants.{Cmd}
use Rattle.x7_listing.specs.HeadLine.{text_of_head}
use Rattle.x7_listing.specs.Line.{cmd_line, ended_text}

-- the line, with its end, of the header of a type 1 write of `count` words to a register
abbrev pub write_head_text : ℕ → ℕ → List ℕ
write_head_text register count = text_of_head (Open register count) (type1_write_header register count)

-- the line, with its end, of the header of a write of one word
abbrev pub write_line_text : ℕ → List ℕ
write_line_text register = codes "write " ++ reg_name register ++ codes " 1\n"

-- the line of the header of a type 1 write to a register, up to its count
abbrev pub write_name_text : ℕ → List ℕ
write_name_text register = codes "write " ++ reg_name register ++ codes " "

-- the lines of a write of one word, up to the word's digits
abbrev pub write_start_text : ℕ → List ℕ
write_start_text register = write_line_text register ++ codes "data "

-- the lines of a write of a word to CMD
abbrev pub command_lines_text : ℕ → List ℕ
command_lines_text w = write_line_text (number_of Cmd) ++ ended_text (cmd_line w)

-- the place, from 0, of the byte of a table's row that says how many of its bytes are text: the last of its 32
abbrev pub text_size_at : ℕ
text_size_at = 31

-- the text that a row of a table holds: as many of its first bytes as its last byte says
abbrev pub row_text : List ℕ → List ℕ
row_text row = take (get_or row text_size_at 0) row

-- the rows hold the texts of the numbers from n up
abbrev pub AreRowsFrom : (ℕ → List ℕ) → ℕ → List (List ℕ) → Type 0
AreRowsFrom text n [] = Unit {0}
AreRowsFrom text n (row ∷ rows) = (row_text row ≡ text n) × AreRowsFrom text (suc n) rows

-- The lines of words in a header's place (this project's choice).
use Rattle.std.specs.Prelude.{ℕ, ◌+◌, ◌==◌, if◌then◌else◌, List}
use Rattle.x7_regs.specs.Named.{longest_name}
use Rattle.x7_packets.specs.Packet.{register_of, type1_count_of, type2_count_of, header_kind_of}
use Rattle.x7_packets.specs.PacketWords.{no_op, sync_word, type1_read_header, type1_write_header, type2_read_kind, type2_write_kind}
use Rattle.x7_text.specs.Digits.{most_digits}
use Rattle.x7_packets.specs.declared.header.Step.{Step}
use Rattle.x7_packets.specs.declared.header.Step.TheVariants.{Bad}
use Rattle.x7_listing.specs.Line.{Line, Nop, Sync, Write, Read, Write2, Read2, Word, ended_text}

-- the line that stands for just this word: a named one where there is one, else the word itself
abbrev pub best_line : ℕ → Line
best_line w =
    if w == no_op then Nop else
    if w == sync_word then Sync else
    if w == type1_write_header (register_of w) (type1_count_of w) then Write (register_of w) (type1_count_of w) else
    if w == type1_read_header (register_of w) (type1_count_of w) then Read (register_of w) (type1_count_of w) else
    if header_kind_of w == type2_write_kind then Write2 (type2_count_of w) else
    if header_kind_of w == type2_read_kind then Read2 (type2_count_of w) else Word w

-- the line of a word in a header's place, by its step
abbrev pub line_of_head : Step → ℕ → Line
line_of_head (Bad _) w = Word w
line_of_head _ w = best_line w

-- how many bytes the keyword of a type 1 header's line has at most, with the space after it: `write `
abbrev pub type1_keyword_limit : ℕ
type1_keyword_limit = 6

-- how many bytes the keyword of a type 2 header's line has at most, with the space after it: `write2 `
abbrev pub type2_keyword_limit : ℕ
type2_keyword_limit = 7

-- the most bytes that the line of one word is given, with its end: those of a type 1 header's, which are its keyword, a
-- register's name, a space, a count of as many digits as 64 bits may have, and the line's end
abbrev pub head_line_limit : ℕ
head_line_limit = type1_keyword_limit + longest_name + 1 + most_digits + 1

-- the text of the line of a word in a header's place, by its step, with the line's end
abbrev pub text_of_head : Step → ℕ → List ℕ
text_of_head step w = ended_text (line_of_head step w)

-- The lines of an assembly text, the text of each and the bytes that it stands for (this project's choice).
use Rattle.std.specs.Prelude.{◌≡◌, ℕ, ◌==◌, ◌^◌, ◌<◌, if◌then◌else◌, List, [], ◌∷◌, ◌++◌, codes, decimal}
use Rattle.std.specs.List.{flat_map}
use Rattle.x7_words.specs.Word.{bytes_of_word}
use Rattle.x7_regs.specs.Register.{number_of, reg_name, reg_number_count}
use Rattle.x7_regs.specs.Command.{code_of, command_by, command_name_of}
use Rattle.x7_regs.specs.declared.command.Command.{Command}
use Rattle.x7_regs.specs.declared.register.Reg.TheVariants.{Crc}
use Rattle.x7_packets.specs.PacketWords.{no_op, sync_word, type1_count_bound, type1_read_header, type1_write_header, type2_count_bound, type2_read_header, type2_write_header}
use Rattle.x7_text.specs.Digits.{hex_byte, hex_word}
use Rattle.x7_words.specs.Characters.{line_end_byte, space_byte}
use Rattle.x7_text.specs.Row.{IsByteRow, IsWordRow, spaced}

-- a line: nothing, a comment, bytes, the sync word, a header word, payload words, a command, or the check of the bytes
-- of the lines before
pub data Line : Type 0 where
  Empty : Line
  Comment : (text : List ℕ) → Line
  Bytes : (bytes : List ℕ) → Line
  Sync : Line
  Nop : Line
  Write : (register count : ℕ) → Line
  Read : (register count : ℕ) → Line
  Write2 : (count : ℕ) → Line
  Read2 : (count : ℕ) → Line
  Word : (word : ℕ) → Line
  Data : (words : List ℕ) → Line
  Cmd : (command : Command) → Line
  Check : Line

-- the fields of a type 1 header, a register's number and a word count, are each within their bits
abbrev pub FitsType1 : ℕ × ℕ → Type 0
FitsType1 a = (a.0 < reg_number_count) × (a.1 < type1_count_bound)

-- the fields of a type 1 header as text: the register's name, a space and the word count
abbrev pub type1_text : ℕ × ℕ → List ℕ
type1_text a = reg_name a.0 ++ space_byte ∷ decimal a.1

-- the text of a line, without its end
abbrev pub text_of : Line → List ℕ
text_of Empty = []
text_of (Comment text) = codes "#" ++ text
text_of (Bytes bytes) = codes "bytes " ++ flat_map hex_byte bytes
text_of Sync = codes "sync"
text_of Nop = codes "nop"
text_of (Write register count) = codes "write " ++ type1_text (register, count)
text_of (Read register count) = codes "read " ++ type1_text (register, count)
text_of (Write2 count) = codes "write2 " ++ decimal count
text_of (Read2 count) = codes "read2 " ++ decimal count
text_of (Word word) = codes "word " ++ hex_word word
text_of (Data words) = codes "data" ++ flat_map spaced words
text_of (Cmd command) = codes "cmd " ++ command_name_of command
text_of Check = codes "crc"

-- the numbers of a line are within the bits of their fields, and its rows have one byte or word at least and a full
-- row's at most
abbrev pub FitsLine : Line → Type 0
FitsLine (Bytes bytes) = IsByteRow bytes
FitsLine (Write register count) = FitsType1 (register, count)
FitsLine (Read register count) = FitsType1 (register, count)
FitsLine (Write2 count) = count < type2_count_bound
FitsLine (Read2 count) = count < type2_count_bound
FitsLine (Word word) = word < 2 ^ 32
FitsLine (Data words) = IsWordRow words
FitsLine _ = Unit {0}

-- the text is that of this line
pub record IsLine (text : List ℕ) (line : Line) : Type 0 where
  pub fits : FitsLine line
  pub text_is : text ≡ text_of line

-- a line of a kind that always stands for one word: the sync word, a header word or a command; a row of payload words
-- isn't one, even of one word
abbrev pub IsWordLine : Line → Type 0
IsWordLine Empty = ⊥
IsWordLine (Comment text) = ⊥
IsWordLine (Bytes bytes) = ⊥
IsWordLine (Data words) = ⊥
IsWordLine Check = ⊥
IsWordLine _ = Unit {0}

-- the word that a line of one word (`IsWordLine`) stands for; 0 for any other line
abbrev pub word_of_line : Line → ℕ
word_of_line Sync = sync_word
word_of_line Nop = no_op
word_of_line (Write register count) = type1_write_header register count
word_of_line (Read register count) = type1_read_header register count
word_of_line (Write2 count) = type2_write_header count
word_of_line (Read2 count) = type2_read_header count
word_of_line (Word word) = word
word_of_line (Cmd command) = code_of command
word_of_line _ = 0

-- a line that always stands for one word, whose numbers are within the bits of their fields
abbrev pub FitsWordLine : Line → Type 0
FitsWordLine l = IsWordLine l × FitsLine l

-- the text is that of a line of one word, which stands for this word
abbrev pub IsWordOfText : List ℕ → ℕ → Type 0
IsWordOfText text word = (l : Line) × FitsWordLine l × (text ≡ text_of l) × (word ≡ word_of_line l)

-- the bytes that a line stands for, where the bytes of the lines before have this check
abbrev pub line_bytes : ℕ → Line → List ℕ
line_bytes check Empty = []
line_bytes check (Comment text) = []
line_bytes check (Bytes bytes) = bytes
line_bytes check (Data words) = flat_map bytes_of_word words
line_bytes check Check = bytes_of_word (type1_write_header (number_of Crc) 1) ++ bytes_of_word check
line_bytes check l = bytes_of_word (word_of_line l)

-- the line is neither a comment nor the check: an empty one, or one as a listing has
abbrev pub IsNeitherCommentNorCheck : Line → Type 0
IsNeitherCommentNorCheck (Comment text) = ⊥
IsNeitherCommentNorCheck Check = ⊥
IsNeitherCommentNorCheck _ = Unit {0}

-- the line of a payload word of CMD: the command whose code the whole word is, else the word
abbrev pub cmd_line : ℕ → Line
cmd_line w = if code_of (command_by w) == w then Cmd (command_by w) else Data (w ∷ [])

-- the text of a line with its end
abbrev pub ended_text : Line → List ℕ
ended_text l = text_of l ++ line_end_byte ∷ []

-- the texts of lines, each with its end
abbrev pub ended_texts : List Line → List ℕ
ended_texts ls = flat_map ended_text ls

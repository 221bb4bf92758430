-- The texts of lines hold no line end, and lines of a listing stand for bytes.
use Rattle.std.proofs.Common.{◌≡◌, ◌==◌, ℕ, ◌<◌, ◌^◌, if◌then◌else◌, Bool, true, false, List, [], ◌∷◌, ◌++◌, refl, ap, sym, arith, codes}
use Rattle.std.proofs.lemmas.Bool.{eq-eqb, eqb-true, ne_eqb}
use Rattle.std.proofs.lemmas.Grind.{common_steps}
use Rattle.std.proofs.lemmas.Fmt.{digits_decimal}
use Rattle.std.specs.Fmt.{decimal}
use Rattle.std.specs.List.{flat_map}
use Rattle.std.specs.Str.{all_ascii_digits}
use Rattle.x7_words.specs.Word.{bytes_of_word}
use Rattle.x7_regs.specs.Register.{reg_name, reg_number_count}
use Rattle.x7_regs.specs.Command.{code_of, command_by, command_name_of}
use Rattle.x7_regs.specs.declared.command.Command.{Command}
use Rattle.x7_regs.specs.declared.command.Command.TheVariants as command
use Rattle.x7_text.specs.Digits.{hex_word}
use Rattle.x7_text.specs.Lines.{has_no_end}
use Rattle.x7_text.specs.Row.{spaced}
use Rattle.x7_text.proofs.PieceLemmas.{free_both, free_more, hex_free, word_free}
use Rattle.x7_listing.specs.Line.{Line, Empty, Comment, Bytes, Sync, Nop, Write, Read, Write2, Read2, Word, Data, Cmd, Check, cmd_line, ended_text, line_bytes, FitsLine, IsNeitherCommentNorCheck, IsWordLine, text_of, word_of_line}
use Rattle.x7_listing.specs.HeadLine.{best_line, line_of_head}
use Rattle.x7_listing.proofs.GuessLemmas.{own, each_name, each_holds}
use Rattle.x7_packets.specs.Packet.{register_of, type1_count_of, type2_count_of, header_kind_of}
use Rattle.x7_packets.specs.PacketWords.{no_op, sync_word, type1_count_bound, type1_read_header, type1_write_header, type2_read_kind, type2_write_kind}
use Rattle.x7_packets.specs.declared.header.Step.{Step}
use Rattle.x7_packets.specs.declared.header.Step.TheVariants as step

-- texts that hold no line end
words_free : (ws : List ℕ) → has_no_end (flat_map spaced ws) ≡ true
words_free [] = refl
words_free (w ∷ ws) = free_both (hex_word w) (flat_map spaced ws) (word_free w) (words_free ws)

plain_digit : (c : ℕ) (cs : List ℕ) → all_ascii_digits (c ∷ cs) ≡ true → ((c == 10) ≡ false) × (all_ascii_digits cs ≡ true)
plain_digit c cs h = (grind (arith, common_steps), grind (arith, common_steps))

digits_free : (ds : List ℕ) → all_ascii_digits ds ≡ true → has_no_end ds ≡ true
digits_free [] h = refl
digits_free (c ∷ cs) h = let p = plain_digit c cs h in free_more c cs p.0 (digits_free cs p.1)

pub decimal_free : (n : ℕ) → n < 2 ^ 64 → has_no_end (decimal n) ≡ true
decimal_free n h = digits_free (decimal n) (digits_decimal own n h)

no_end : List ℕ → ℕ → Bool
no_end name n = has_no_end name

all_no_end : each_name no_end 32 ≡ true
unfolding each_name no_end
all_no_end = refl

name_free : (n : ℕ) → n < reg_number_count → has_no_end (reg_name n) ≡ true
unfolding no_end
name_free n h = each_holds no_end 32 n h all_no_end

command_free : (c : Command) → has_no_end (command_name_of c) ≡ true
command_free command.Null = refl
command_free command.Wcfg = refl
command_free command.Mfw = refl
command_free command.Lfrm = refl
command_free command.Rcfg = refl
command_free command.Start = refl
command_free command.Rcap = refl
command_free command.Rcrc = refl
command_free command.Aghigh = refl
command_free command.Switch = refl
command_free command.Grestore = refl
command_free command.Shutdown = refl
command_free command.Gcapture = refl
command_free command.Desync = refl
command_free command.Iprog = refl
command_free command.Crcc = refl
command_free command.Ltimer = refl
command_free command.BspiRead = refl
command_free command.FallEdge = refl

type1_free : (n c : ℕ) → n < reg_number_count → c < type1_count_bound → has_no_end (reg_name n ++ 32 ∷ decimal c) ≡ true
type1_free n c h k = free_both (reg_name n) (32 ∷ decimal c) (name_free n h) (decimal_free c (omega arith))

pub line_free : (l : Line) → FitsLine l → IsNeitherCommentNorCheck l → has_no_end (text_of l) ≡ true
line_free Empty h k = refl
line_free (Comment text) h k = absurd k
line_free (Bytes bs) h k = hex_free bs
line_free Sync h k = refl
line_free Nop h k = refl
line_free (Write n c) h k = type1_free n c h.0 h.1
line_free (Read n c) h k = type1_free n c h.0 h.1
line_free (Write2 c) h k = decimal_free c (omega (arith, h))
line_free (Read2 c) h k = decimal_free c (omega (arith, h))
line_free (Word w) h k = word_free w
line_free (Data ws) h k = words_free ws
line_free (Cmd c) h k = command_free c
line_free Check h k = absurd k

-- the bytes of a line that is neither a comment nor the check are the same whatever check the lines before have
pub same_bytes : (c : ℕ) (l : Line) → IsNeitherCommentNorCheck l → line_bytes c l ≡ line_bytes 0 l
same_bytes c Empty h = refl
same_bytes c (Comment text) h = refl
same_bytes c (Bytes bs) h = refl
same_bytes c Sync h = refl
same_bytes c Nop h = refl
same_bytes c (Write n k) h = refl
same_bytes c (Read n k) h = refl
same_bytes c (Write2 k) h = refl
same_bytes c (Read2 k) h = refl
same_bytes c (Word w) h = refl
same_bytes c (Data ws) h = refl
same_bytes c (Cmd x) h = refl
same_bytes c Check h = absurd h

-- a line that fits and is that of a listing
abbrev pub Listed : Line → Type 0
Listed l = FitsLine l × IsNeitherCommentNorCheck l

-- a line of a listing stands for just this word's bytes
abbrev pub IsLineOf : ℕ → Line → Type 0
IsLineOf w l = (line_bytes 0 l ≡ bytes_of_word w) × Listed l

cmd_stands_by : (b : Bool) (w : ℕ) → w < 2 ^ 32 → (b ≡ true → code_of (command_by w) ≡ w) → IsLineOf w (if b then Cmd (command_by w) else Data (w ∷ []))
cmd_stands_by true w h e = (ap bytes_of_word (e refl), (tt, tt))
cmd_stands_by false w h e = (refl, (((h, tt), omega arith, omega arith), tt))

pub cmd_stands : (w : ℕ) → w < 2 ^ 32 → IsLineOf w (cmd_line w)
cmd_stands w h = cmd_stands_by (code_of (command_by w) == w) w h (eqb-true (code_of (command_by w)) w)

-- a payload word of CMD that is no command's code
pub no_command_line : (w : ℕ) → (code_of (command_by w) ≡ w → ⊥) → ended_text (cmd_line w) ≡ codes "data " ++ hex_word w ++ 10 ∷ []
no_command_line w c = rw (ne_eqb (code_of (command_by w)) w c) refl

-- a payload word of CMD that is a command's code
pub command_line : (w : ℕ) → code_of (command_by w) ≡ w → ended_text (cmd_line w) ≡ codes "cmd " ++ command_name_of (command_by w) ++ 10 ∷ []
command_line w c = rw (eq-eqb (code_of (command_by w)) w c) refl

-- the bytes of a line of one word
pub word_bytes : (check : ℕ) (l : Line) → IsWordLine l → bytes_of_word (word_of_line l) ≡ line_bytes check l
word_bytes check Empty h = absurd h
word_bytes check (Comment text) h = absurd h
word_bytes check (Bytes bs) h = absurd h
word_bytes check Sync h = refl
word_bytes check Nop h = refl
word_bytes check (Write n k) h = refl
word_bytes check (Read n k) h = refl
word_bytes check (Write2 k) h = refl
word_bytes check (Read2 k) h = refl
word_bytes check (Word x) h = refl
word_bytes check (Data ws) h = absurd h
word_bytes check (Cmd x) h = refl
word_bytes check Check h = absurd h

pick : (P : Line → Type 0) (b : Bool) (x y : Line) → (b ≡ true → P x) → P y → P (if b then x else y)
pick P true x y f g = f refl
pick P false x y f g = g

by_step : (P : Line → Type 0) (s : Step) (w : ℕ) → P (Word w) → P (best_line w) → P (line_of_head s w)
by_step P (step.Bad x) w b h = b
by_step P step.Filler w b h = h
by_step P step.Nop w b h = h
by_step P (step.Open r c) w b h = h
by_step P (step.Payload r x) w b h = h
by_step P (step.Read r c) w b h = h

-- the line of a word in a header's place is one of one word
best_is_one : (w : ℕ) → IsWordLine (best_line w)
best_is_one w =
    pick IsWordLine (w == no_op) Nop _ (λ _. tt)
    (pick IsWordLine (w == sync_word) Sync _ (λ _. tt)
    (pick IsWordLine (w == type1_write_header (register_of w) (type1_count_of w)) (Write (register_of w) (type1_count_of w)) _ (λ _. tt)
    (pick IsWordLine (w == type1_read_header (register_of w) (type1_count_of w)) (Read (register_of w) (type1_count_of w)) _ (λ _. tt)
    (pick IsWordLine (header_kind_of w == type2_write_kind) (Write2 (type2_count_of w)) _ (λ _. tt)
    (pick IsWordLine (header_kind_of w == type2_read_kind) (Read2 (type2_count_of w)) (Word w) (λ _. tt) tt)))))

pub head_is_one : (s : Step) (w : ℕ) → IsWordLine (line_of_head s w)
head_is_one s w = by_step IsWordLine s w tt (best_is_one w)

-- a line of a listing has this word as the word that it stands for
abbrev pub IsLineOfWord : ℕ → Line → Type 0
IsLineOfWord w l = (word_of_line l ≡ w) × Listed l

best_is_of_word : (w : ℕ) → w < 2 ^ 32 → IsLineOfWord w (best_line w)
best_is_of_word w h =
    let r : register_of w < reg_number_count = omega arith in
    pick (IsLineOfWord w) (w == no_op) Nop _ (λ e. (sym (eqb-true w no_op e), (tt, tt)))
    (pick (IsLineOfWord w) (w == sync_word) Sync _ (λ e. (sym (eqb-true w sync_word e), (tt, tt)))
    (pick (IsLineOfWord w) (w == type1_write_header (register_of w) (type1_count_of w)) (Write (register_of w) (type1_count_of w)) _ (λ e. (sym (eqb-true w (type1_write_header (register_of w) (type1_count_of w)) e), ((r, omega arith), tt)))
    (pick (IsLineOfWord w) (w == type1_read_header (register_of w) (type1_count_of w)) (Read (register_of w) (type1_count_of w)) _ (λ e. (sym (eqb-true w (type1_read_header (register_of w) (type1_count_of w)) e), ((r, omega arith), tt)))
    (pick (IsLineOfWord w) (header_kind_of w == type2_write_kind) (Write2 (type2_count_of w)) _ (λ e. let k : header_kind_of w ≡ type2_write_kind = eqb-true (header_kind_of w) type2_write_kind e in (omega arith, (omega arith, tt)))
    (pick (IsLineOfWord w) (header_kind_of w == type2_read_kind) (Read2 (type2_count_of w)) (Word w) (λ e. let k : header_kind_of w ≡ type2_read_kind = eqb-true (header_kind_of w) type2_read_kind e in (omega arith, (omega arith, tt))) (refl, (h, tt)))))))

pub head_is_of_word : (s : Step) (w : ℕ) → w < 2 ^ 32 → IsLineOfWord w (line_of_head s w)
head_is_of_word s w h = by_step (IsLineOfWord w) s w (refl, (h, tt)) (best_is_of_word w h)

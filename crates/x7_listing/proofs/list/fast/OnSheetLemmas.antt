-- What short runs add to the text of a sheet.
use Rattle.std.proofs.Common.{◌≡◌, ℕ, ◌+◌, ◌*◌, ◌<◌, ◌≤◌, List, [], ◌∷◌, ◌++◌, codes, decimal, length, replicate, take, refl, ap, sym, ◌∙◌, append_assoc, arith}
use Rattle.std.specs.List.{flat_map}
use Rattle.x7_packets.specs.Cutter.{CutterState}
use Rattle.x7_packets.specs.PacketWords.{no_op, type1_write_header}
use Rattle.x7_packets.specs.declared.header.Step.TheVariants.{Nop, Open}
use Rattle.x7_regs.specs.Command.{code_of, command_by, command_code_count}
use Rattle.x7_regs.specs.declared.command.Command.{Command}
use Rattle.x7_regs.specs.declared.command.Command.TheVariants.{Null, Wcfg, Mfw, Lfrm, Rcfg, Start, Rcap, Rcrc, Aghigh, Switch, Grestore, Shutdown, Gcapture, Desync, Iprog, Crcc, Ltimer, BspiRead, FallEdge}
use Rattle.x7_text.specs.Digits.{hex_word}
use Rattle.x7_text.specs.Row.{close}
use Rattle.x7_listing.specs.Fast.AtOnce.{command_lines_text, write_line_text, write_name_text, write_start_text}
use Rattle.x7_listing.specs.Fast.TakingAtOnce.{TakesOnSheet}
use Rattle.x7_listing.specs.HeadLine.{text_of_head}
use Rattle.x7_listing.specs.Line.{cmd_line, ended_text}
use Rattle.x7_listing.proofs.list.fast.AtOnceLemmas.{equal_block, equal_prefix, nop_lines, short_line_is}
use Rattle.x7_listing.proofs.line.LineTextLemmas.{no_command_line}
use Rattle.x7_regs.specs.Register.{reg_number_count}

-- a row after the end of an open line
pub row_after : (shown begin row all new : List ℕ) (line : ℕ) → begin ≡ shown ++ close line → all ≡ begin ++ new → new ≡ row → all ≡ shown ++ (close line ++ row)
row_after shown begin row all new line e f g = f ∙ ap (λ t. begin ++ t) g ∙ ap (λ t. t ++ row) e ∙ append_assoc shown (close line) row

-- a text after another
pub after_text : (text shown now more : List ℕ) → now ≡ shown ++ more → text ++ now ≡ (text ++ shown) ++ more
after_text text shown now more e = ap (λ t. text ++ t) e ∙ sym (append_assoc text shown more)

small_code : (c : Command) → code_of c < command_code_count
small_code Null = omega arith
small_code Wcfg = omega arith
small_code Mfw = omega arith
small_code Lfrm = omega arith
small_code Rcfg = omega arith
small_code Start = omega arith
small_code Rcap = omega arith
small_code Rcrc = omega arith
small_code Aghigh = omega arith
small_code Switch = omega arith
small_code Grestore = omega arith
small_code Shutdown = omega arith
small_code Gcapture = omega arith
small_code Desync = omega arith
small_code Iprog = omega arith
small_code Crcc = omega arith
small_code Ltimer = omega arith
small_code BspiRead = omega arith
small_code FallEdge = omega arith

-- the lines of a write to CMD of a word from 32 on
pub far_command : (shown : List ℕ) (line register w : ℕ) → register ≡ 4 → 32 ≤ w → ((shown ++ (close line ++ write_start_text register)) ++ hex_word w) ++ 10 ∷ [] ≡ shown ++ (close line ++ command_lines_text w)
far_command shown line register w e far =
    let listed : ended_text (cmd_line w) ≡ codes "data " ++ hex_word w ++ 10 ∷ [] = no_command_line w (λ f. absurd (omega (arith, f, far, small_code (command_by w)))) in
    ap (λ (r : ℕ). ((shown ++ (close line ++ write_start_text r)) ++ hex_word w) ++ 10 ∷ []) e
    ∙ append_assoc (shown ++ (close line ++ write_start_text 4)) (hex_word w) (10 ∷ []) ∙ append_assoc shown (close line ++ write_start_text 4) (hex_word w ++ 10 ∷ [])
    ∙ ap (λ t. shown ++ t) (append_assoc (close line) (write_start_text 4) (hex_word w ++ 10 ∷ []) ∙ ap (λ t. close line ++ t) (append_assoc (write_line_text 4) (codes "data ") (hex_word w ++ 10 ∷ []) ∙ ap (λ t. write_line_text 4 ++ t) (sym listed)))

-- the line of the header of a short write
pub head_shown : (shown first all : List ℕ) (line register count : ℕ) → register < reg_number_count → count < 20 → first ≡ shown ++ (close line ++ write_name_text register) → all ≡ first ++ (decimal count ++ 10 ∷ [])
    → all ≡ shown ++ (close line ++ text_of_head (Open register count) (type1_write_header register count))
head_shown shown first all line register count h k a b =
    b ∙ ap (λ t. t ++ (decimal count ++ 10 ∷ [])) a ∙ append_assoc shown (close line ++ write_name_text register) (decimal count ++ 10 ∷ [])
    ∙ ap (λ t. shown ++ t) (append_assoc (close line) (write_name_text register) (decimal count ++ 10 ∷ []) ∙ ap (λ t. close line ++ t) (sym (short_line_is register count h k)))

-- a few no-ops
pub nops_shown : (count : ℕ) (block : List ℕ) → count ≤ 32 → block ≡ flat_map (λ x. x) (replicate 32 (codes "nop\n")) → take (4 * count) block ≡ nop_lines count
nops_shown count block few e = ap (take (4 * count)) (e ∙ equal_block Nop no_op 32 (codes "nop\n") refl) ∙ equal_prefix Nop no_op 4 32 count refl few

-- a gap and its sync word
pub gap_shown : (shown cut first all listed : List ℕ) → first ≡ shown ++ cut → all ≡ first ++ (10 ∷ codes "sync\n") → listed ≡ cut ++ 10 ∷ [] → all ≡ shown ++ (listed ++ codes "sync\n")
gap_shown shown cut first all listed a b e =
    b ∙ ap (λ t. t ++ (10 ∷ codes "sync\n")) a ∙ append_assoc shown cut (10 ∷ codes "sync\n") ∙ ap (λ t. shown ++ t) (sym (append_assoc cut (10 ∷ []) (codes "sync\n")) ∙ ap (λ t. t ++ codes "sync\n") (sym e))

-- a short run that was put within `most` bytes of a sheet
pub put_within : (old new : CutterState) (rest : List ℕ) (size from to most : ℕ) → 4 ≤ size → size ≤ length rest → length new.kept ≤ length old.kept
    → to ≤ from + most → most ≤ 25 * size → from + most ≤ 2048 → TakesOnSheet old new rest size from to
put_within old new rest size from to most word whole kept grows few room = record { at_least_a_word = word; within = whole; kept = kept; grown = omega arith; inside = omega arith }

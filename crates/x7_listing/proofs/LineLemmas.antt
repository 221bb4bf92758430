-- From what stands after a line's first word to the line.
use Rattle.std.proofs.Common.{◌≡◌, ◌≢◌, ℕ, ◌<◌, ◌^◌, Bool, true, false, List, [], ◌∷◌, ◌++◌, arith, append-nil, refl, ap, subst, sym, ◌∙◌, codes}
use Rattle.std.proofs.lemmas.Grind.{common_steps}
use Rattle.std.proofs.lemmas.List.{append_cancel_left}
use Rattle.std.specs.Fmt.{decimal}
use Rattle.std.specs.List.{flat_map}
use Rattle.x7_words.specs.Word.{bytes_of_word}
use Rattle.x7_regs.specs.Register.{reg_name, reg_number_count}
use Rattle.x7_regs.specs.Command.{command_name_of, command_with}
use Rattle.x7_regs.specs.declared.command.Command.{Command}
use Rattle.x7_text.specs.Digits.{hex_byte, hex_word}
use Rattle.x7_text.specs.Lines.{means_nothing}
use Rattle.x7_text.specs.Row.{spaced}
use Rattle.x7_packets.specs.PacketWords.{type1_count_bound, type2_count_bound}
use Rattle.x7_listing.specs.Line.{Line, Empty, Comment, Bytes, Sync, Nop, Write, Read, Write2, Read2, Word, Data, Cmd, Check, type1_text, line_bytes, FitsLine, FitsWordLine, FitsType1, IsLine, IsWordOfText, text_of}
use Rattle.x7_text.specs.Row.{IsByteRow, IsWordRow}
use Rattle.x7_text.specs.Reads.{AppendsIfRead}
use Rattle.x7_text.specs.DigitValue.{bytes_value, word_value}
use Rattle.x7_listing.proofs.line.LineTextLemmas.{word_bytes}
use Rattle.x7_listing.proofs.GuessLemmas.{after_space, digits_after_space, name_free, command_names, count_in, decimal_after, line_is, place_in, register_in, words_value}

lift : {A : Type 0} (fits : A → Type 0) (text bytes : A → List ℕ) (check : ℕ) (word : List ℕ) (line : A → Line) (b : Bool) (t rest old new : List ℕ)
    → t ≡ word ++ rest → ((x : A) → fits x → FitsLine (line x)) → ((x : A) → FitsLine (line x) → fits x) → ((x : A) → text_of (line x) ≡ word ++ text x) → ((x : A) → line_bytes check (line x) ≡ bytes x)
    → ((l : Line) → IsLine (word ++ rest) l → (x : A) × (l ≡ line x))
    → AppendsIfRead fits text bytes b rest old new → AppendsIfRead FitsLine text_of (line_bytes check) b t old new
lift fits text bytes check word line true t rest old new e into from texts byteses only r =
    (line r.0, into r.0 r.1, e ∙ ap (λ s. word ++ s) r.2 ∙ sym (texts r.0), r.3 ∙ ap (λ s. old ++ s) (sym (byteses r.0)))
lift fits text bytes check word line false t rest old new e into from texts byteses only r = (
  λ l h k. let p = only l (record { fits = h; text_is = sym e ∙ k }) in
      r.0 p.0 (from p.0 (subst FitsLine p.1 h)) (append_cancel_left word rest (text p.0) (sym e ∙ k ∙ ap text_of p.1 ∙ texts p.0)),
  r.1,
)

module _ (check : ℕ) (b : Bool) (t rest old new : List ℕ) where
  pub data_line : t ≡ codes "data" ++ rest → AppendsIfRead IsWordRow (flat_map spaced) (flat_map bytes_of_word) b rest old new → AppendsIfRead FitsLine text_of (line_bytes check) b t old new
  data_line e r = lift IsWordRow (flat_map spaced) (flat_map bytes_of_word) check (codes "data") Data b t rest old new e (λ x h. h) (λ x h. h) (λ x. refl) (λ x. refl) (λ l i. (words_value rest, line_is _ l i)) r

  pub bytes_line : t ≡ codes "bytes " ++ rest → AppendsIfRead IsByteRow (flat_map hex_byte) (λ (bs : List ℕ). bs) b rest old new → AppendsIfRead FitsLine text_of (line_bytes check) b t old new
  bytes_line e r = lift IsByteRow (flat_map hex_byte) (λ (bs : List ℕ). bs) check (codes "bytes ") Bytes b t rest old new e (λ x h. h) (λ x h. h) (λ x. refl) (λ x. refl) (λ l i. (bytes_value rest, line_is _ l i)) r

-- ---- lines that stand for one word

-- where what stands after a line's first word is the text of no value that fits, the whole is that of no line of one
-- word
no_value : {A : Type 0} (fits : A → Type 0) (text : A → List ℕ) (word : List ℕ) (line : A → Line) (t rest : List ℕ)
    → t ≡ word ++ rest → ((x : A) → FitsWordLine (line x) → fits x) → ((x : A) → text_of (line x) ≡ word ++ text x)
    → ((l : Line) → IsLine (word ++ rest) l → (x : A) × (l ≡ line x))
    → ((x : A) → fits x → rest ≢ text x) → (l : Line) → FitsWordLine l → t ≢ text_of l
no_value fits text word line t rest e from texts only none l h k =
    let p = only l (record { fits = h.1; text_is = sym e ∙ k }) in
    none p.0 (from p.0 (subst FitsWordLine p.1 h)) (append_cancel_left word rest (text p.0) (sym e ∙ k ∙ ap text_of p.1 ∙ texts p.0))

module _ (t rest : List ℕ) where
  pub no_word : t ≡ codes "word " ++ rest → ((w : ℕ) → w < 2 ^ 32 → rest ≢ hex_word w) → (l : Line) → FitsWordLine l → t ≢ text_of l
  no_word e none = no_value (λ w. w < 2 ^ 32) hex_word (codes "word ") Word t rest e (λ x h. h.1) (λ x. refl) (λ l i. (word_value rest, line_is _ l i)) none

  pub no_cmd : t ≡ codes "cmd " ++ rest → ((c : Command) → rest ≢ command_name_of c) → (l : Line) → FitsWordLine l → t ≢ text_of l
  no_cmd e none = no_value (λ (c : Command). Unit {0}) command_name_of (codes "cmd ") Cmd t rest e (λ x h. tt) (λ x. refl)
      (λ l i. (command_with (place_in command_names rest), line_is _ l i)) (λ c _. none c)

  pub no_write : t ≡ codes "write " ++ rest → ((a : ℕ × ℕ) → FitsType1 a → rest ≢ type1_text a) → (l : Line) → FitsWordLine l → t ≢ text_of l
  no_write e none = no_value FitsType1 type1_text (codes "write ") (λ (a : ℕ × ℕ). Write a.0 a.1) t rest e (λ x h. h.1) (λ x. refl) (λ l i. ((register_in rest, count_in rest), line_is _ l i)) none

  pub no_read : t ≡ codes "read " ++ rest → ((a : ℕ × ℕ) → FitsType1 a → rest ≢ type1_text a) → (l : Line) → FitsWordLine l → t ≢ text_of l
  no_read e none = no_value FitsType1 type1_text (codes "read ") (λ (a : ℕ × ℕ). Read a.0 a.1) t rest e (λ x h. h.1) (λ x. refl) (λ l i. ((register_in rest, count_in rest), line_is _ l i)) none

  pub no_write2 : t ≡ codes "write2 " ++ rest → ((n : ℕ) → n < type2_count_bound → rest ≢ decimal n) → (l : Line) → FitsWordLine l → t ≢ text_of l
  no_write2 e none = no_value (λ n. n < type2_count_bound) decimal (codes "write2 ") Write2 t rest e (λ x h. h.1) (λ x. refl) (λ l i. (decimal_after 0 rest, line_is _ l i)) none

  pub no_read2 : t ≡ codes "read2 " ++ rest → ((n : ℕ) → n < type2_count_bound → rest ≢ decimal n) → (l : Line) → FitsWordLine l → t ≢ text_of l
  no_read2 e none = no_value (λ n. n < type2_count_bound) decimal (codes "read2 ") Read2 t rest e (λ x h. h.1) (λ x. refl) (λ l i. (decimal_after 0 rest, line_is _ l i)) none

-- the text doesn't begin with this word
abbrev pub NotAfter : List ℕ → List ℕ → Type 0
NotAfter word t = (rest : List ℕ) → t ≢ word ++ rest

-- a text that begins with none of the words, and is neither `nop` nor `sync`, is that of no line of one word
pub no_word_line : (t : List ℕ) → NotAfter (codes "word ") t → NotAfter (codes "cmd ") t → NotAfter (codes "write ") t → NotAfter (codes "read ") t
    → NotAfter (codes "write2 ") t → NotAfter (codes "read2 ") t → t ≢ codes "nop" → t ≢ codes "sync" → (l : Line) → FitsWordLine l → t ≢ text_of l
no_word_line t w c wr re w2 r2 np sy Empty h e = h.0
no_word_line t w c wr re w2 r2 np sy (Comment text) h e = h.0
no_word_line t w c wr re w2 r2 np sy (Bytes bs) h e = h.0
no_word_line t w c wr re w2 r2 np sy Sync h e = sy e
no_word_line t w c wr re w2 r2 np sy Nop h e = np e
no_word_line t w c wr re w2 r2 np sy (Write n k) h e = wr (type1_text (n, k)) e
no_word_line t w c wr re w2 r2 np sy (Read n k) h e = re (type1_text (n, k)) e
no_word_line t w c wr re w2 r2 np sy (Write2 k) h e = w2 (decimal k) e
no_word_line t w c wr re w2 r2 np sy (Read2 k) h e = r2 (decimal k) e
no_word_line t w c wr re w2 r2 np sy (Word x) h e = w (hex_word x) e
no_word_line t w c wr re w2 r2 np sy (Data ws) h e = h.0
no_word_line t w c wr re w2 r2 np sy (Cmd x) h e = c (command_name_of x) e
no_word_line t w c wr re w2 r2 np sy Check h e = h.0

-- a text that begins with neither `data` nor `bytes`, means something and isn't `crc` is that of a line of one word, if
-- of any
of_one_word : (t : List ℕ) → NotAfter (codes "data") t → NotAfter (codes "bytes ") t → means_nothing t ≡ false → t ≢ codes "crc" → (l : Line) → FitsLine l → t ≡ text_of l → FitsWordLine l
of_one_word t d b m cr Empty h e = absurd (let f : true ≡ false = sym (ap means_nothing e) ∙ m in cc)
of_one_word t d b m cr (Comment text) h e = absurd (let f : true ≡ false = sym (ap means_nothing e) ∙ m in cc)
of_one_word t d b m cr (Bytes bs) h e = absurd (b (flat_map hex_byte bs) e)
of_one_word t d b m cr Sync h e = (tt, h)
of_one_word t d b m cr Nop h e = (tt, h)
of_one_word t d b m cr (Write n k) h e = (tt, h)
of_one_word t d b m cr (Read n k) h e = (tt, h)
of_one_word t d b m cr (Write2 k) h e = (tt, h)
of_one_word t d b m cr (Read2 k) h e = (tt, h)
of_one_word t d b m cr (Word x) h e = (tt, h)
of_one_word t d b m cr (Data ws) h e = absurd (d (flat_map spaced ws) e)
of_one_word t d b m cr (Cmd x) h e = (tt, h)
of_one_word t d b m cr Check h e = absurd (cr e)

-- the text of a line of one word was read, and the word's bytes were appended
pub word_read : (check w : ℕ) (t old new : List ℕ) → IsWordOfText t w → new ≡ old ++ bytes_of_word w → AppendsIfRead FitsLine text_of (line_bytes check) true t old new
word_read check w t old new i p = (i.0, i.1.1, i.2, p ∙ ap (λ (v : ℕ). old ++ bytes_of_word v) i.3 ∙ ap (λ s. old ++ s) (word_bytes check i.0 i.1.0))

-- the text is that of no line of one word, nor of another line
pub none_read : (check : ℕ) (t old : List ℕ) → NotAfter (codes "data") t → NotAfter (codes "bytes ") t → means_nothing t ≡ false → t ≢ codes "crc"
    → ((l : Line) → FitsWordLine l → t ≢ text_of l) → AppendsIfRead FitsLine text_of (line_bytes check) false t old old
none_read check t old d y m cr i = (λ l h e. i l (of_one_word t d y m cr l h e) e, refl)

-- a line that means nothing is empty or a comment
pub nothing_read : (check : ℕ) (t old : List ℕ) → means_nothing t ≡ true → AppendsIfRead FitsLine text_of (line_bytes check) true t old old
nothing_read check [] old e = (Empty, tt, refl, sym (append-nil old))
nothing_read check (c ∷ cs) old e = (Comment cs, tt, ap (λ (d : ℕ). d ∷ cs) (grind (arith, common_steps)), sym (append-nil old))

pub no_type1 : (t ds : List ℕ) (r : ℕ) → r < reg_number_count → t ≡ reg_name r ++ 32 ∷ ds → ((n : ℕ) → n < type1_count_bound → ds ≢ decimal n) → (a : ℕ × ℕ) → FitsType1 a → t ≡ type1_text a → ⊥
no_type1 t ds r h e none a i k =
    none a.1 i.1 (sym (digits_after_space (reg_name r) ds (name_free r h)) ∙ ap after_space (sym e ∙ k) ∙ digits_after_space (reg_name a.0) (decimal a.1) (name_free a.0 i.0))

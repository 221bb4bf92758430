-- What line a text is of, if it is of one: by the word that it begins with, and what its digits stand for.
use Rattle.std.proofs.Common.{◌≡◌, ℕ, zero, suc, ◌+◌, ◌*◌, ◌-◌, ◌^◌, ◌<◌, ◌==◌, ◌&&◌, if◌then◌else◌, Bool, true, false, List, [], ◌∷◌, ◌++◌, Option, None, Some, refl, ap, ap₂, sym, ◌∙◌, arith, inl, inr, subst, codes, rules}
use Rattle.std.proofs.lemmas.Bool.{cases_lt, eqb-true}
use Rattle.std.proofs.lemmas.Fmt.{digits_value-decimal}
use Rattle.std.proofs.lemmas.Str.Parse.{IsNumeralModel, numerals_by_fold}
use Rattle.std.specs.Fmt.{decimal}
use Rattle.std.specs.List.{flat_map}
use Rattle.std.specs.Prelude.{unwrap_or, option_map}
use Rattle.std.specs.Str.{all_ascii_digits, bytes_eq}
use Rattle.x7_words.specs.Word.{AreWords}
use Rattle.x7_regs.specs.Register.{reg_name, reg_names, reg_number_count}
use Rattle.x7_regs.specs.Command.{command_name_of, command_with}
use Rattle.x7_regs.specs.declared.command.Command.{Command}
use Rattle.x7_regs.specs.declared.command.Command.TheVariants as command
use Rattle.x7_text.specs.Row.{spaced}
use Rattle.x7_listing.specs.BitLine.{has_no_space}
use Rattle.x7_listing.specs.Line.{Line, Empty, Comment, Bytes, Sync, Nop, Write, Read, Write2, Read2, Word, Data, Cmd, Check, FitsLine, IsLine, text_of}
use Rattle.x7_text.specs.DigitValue.{bytes_value, word_value}
use Rattle.x7_text.proofs.ValueLemmas.{bytes_back, word_back}
use Rattle.x7_words.proofs.CaseLemmas.{both_true}

-- what stands after a word that the text begins with
abbrev pub after : List ℕ → List ℕ → Option (List ℕ)
after [] t = Some t
after (c ∷ cs) [] = None
after (c ∷ cs) (x ∷ xs) = if x == c then after cs xs else None

-- the line of a text that begins with this word
abbrev pub by_word : List ℕ → (List ℕ → Line) → List ℕ → Line → Line
by_word word line t other = unwrap_or (option_map line (after word t)) other

-- the words after a space each
abbrev pub words_value : List ℕ → List ℕ
words_value (s ∷ a ∷ b ∷ c ∷ d ∷ e ∷ f ∷ g ∷ h ∷ t) = word_value (a ∷ b ∷ c ∷ d ∷ e ∷ f ∷ g ∷ h ∷ []) ∷ words_value t
words_value _ = []

-- the number of decimal digits
abbrev pub decimal_after : ℕ → List ℕ → ℕ
decimal_after n [] = n
decimal_after n (c ∷ cs) = decimal_after (10 * n + (c - 48)) cs

-- the place of a name in a table
abbrev pub place_in : List (List ℕ) → List ℕ → ℕ
place_in [] name = 0
place_in (x ∷ xs) name = if bytes_eq x name then 0 else place_in xs name + 1

-- what stands before the first space, and after it
abbrev pub before_space : List ℕ → List ℕ
before_space [] = []
before_space (c ∷ cs) = if c == 32 then [] else c ∷ before_space cs

abbrev pub after_space : List ℕ → List ℕ
after_space [] = []
after_space (c ∷ cs) = if c == 32 then cs else after_space cs

abbrev pub register_in : List ℕ → ℕ
register_in t = place_in reg_names (before_space t)

abbrev pub count_in : List ℕ → ℕ
count_in t = decimal_after 0 (after_space t)

abbrev pub command_names : List (List ℕ)
command_names =
    codes "NULL" ∷ codes "WCFG" ∷ codes "MFW" ∷ codes "LFRM" ∷ codes "RCFG" ∷ codes "START" ∷ codes "RCAP" ∷ codes "RCRC" ∷ codes "AGHIGH"
    ∷ codes "SWITCH" ∷ codes "GRESTORE" ∷ codes "SHUTDOWN" ∷ codes "GCAPTURE" ∷ codes "DESYNC" ∷ codes "NULL" ∷ codes "IPROG" ∷ codes "CRCC"
    ∷ codes "LTIMER" ∷ codes "BSPI_READ" ∷ codes "FALL_EDGE" ∷ []

abbrev pub guess : List ℕ → Line
guess t =
    by_word (codes "#") Comment t
    (by_word (codes "bytes ") (λ r. Bytes (bytes_value r)) t
    (by_word (codes "sync") (λ r. Sync) t
    (by_word (codes "nop") (λ r. Nop) t
    (by_word (codes "write ") (λ r. Write (register_in r) (count_in r)) t
    (by_word (codes "read ") (λ r. Read (register_in r) (count_in r)) t
    (by_word (codes "write2 ") (λ r. Write2 (decimal_after 0 r)) t
    (by_word (codes "read2 ") (λ r. Read2 (decimal_after 0 r)) t
    (by_word (codes "word ") (λ r. Word (word_value r)) t
    (by_word (codes "data") (λ r. Data (words_value r)) t
    (by_word (codes "cmd ") (λ r. Cmd (command_with (place_in command_names r))) t
    (by_word (codes "crc") (λ r. Check) t Empty)))))))))))

pub own : IsNumeralModel (λ ds. all_ascii_digits ds ≡ true) (decimal_after 0)
own = numerals_by_fold _ (search rules) decimal_after (search rules)

pub decimal_back : (n : ℕ) → n < 2 ^ 64 → decimal_after 0 (decimal n) ≡ n
decimal_back n h = digits_value-decimal own n h

pub words_back : (ws : List ℕ) → AreWords ws → words_value (flat_map spaced ws) ≡ ws
words_back [] h = refl
words_back (w ∷ ws) h = ap₂ (λ (x : ℕ) (t : List ℕ). x ∷ t) (word_back w h.0) (words_back ws h.1)

before_by : (b : Bool) (c : ℕ) (cs ds : List ℕ) → (if b then false else has_no_space cs) ≡ true → (has_no_space cs ≡ true → before_space (cs ++ 32 ∷ ds) ≡ cs)
    → (if b then [] else c ∷ before_space (cs ++ 32 ∷ ds)) ≡ c ∷ cs
before_by true c cs ds h more = absurd cc
before_by false c cs ds h more = ap (λ t. c ∷ t) (more h)

pub name_before_space : (name ds : List ℕ) → has_no_space name ≡ true → before_space (name ++ 32 ∷ ds) ≡ name
name_before_space [] ds h = refl
name_before_space (c ∷ cs) ds h = before_by (c == 32) c cs ds h (name_before_space cs ds)

after_by : (b : Bool) (cs ds : List ℕ) → (if b then false else has_no_space cs) ≡ true → (has_no_space cs ≡ true → after_space (cs ++ 32 ∷ ds) ≡ ds)
    → (if b then cs ++ 32 ∷ ds else after_space (cs ++ 32 ∷ ds)) ≡ ds
after_by true cs ds h more = absurd cc
after_by false cs ds h more = more h

pub digits_after_space : (name ds : List ℕ) → has_no_space name ≡ true → after_space (name ++ 32 ∷ ds) ≡ ds
digits_after_space [] ds h = refl
digits_after_space (c ∷ cs) ds h = after_by (c == 32) cs ds h (digits_after_space cs ds)

-- what holds of each name of the registers by a computed test
unfoldable pub each_name : (List ℕ → ℕ → Bool) → ℕ → Bool
each_name test zero = true
each_name test (suc n) = test (reg_name n) n && each_name test n

pub each_holds : (test : List ℕ → ℕ → Bool) (k n : ℕ) → n < k → each_name test k ≡ true → test (reg_name n) n ≡ true
unfolding each_name
each_holds test zero n h e = absurd (omega arith)
each_holds test (suc k) n h e =
    let parts = both_true (test (reg_name k) k) (each_name test k) e in
    elim (cases_lt n k) [
      | inl below ↦ each_holds test k n below parts.1
      | inr above ↦ let same : k ≡ n = omega arith in let P : ℕ → Type 0 = λ j. test (reg_name j) j ≡ true in subst P same parts.0
    ]

in_place : List ℕ → ℕ → Bool
in_place name n = place_in reg_names name == n

free : List ℕ → ℕ → Bool
free name n = has_no_space name

all_in_place : each_name in_place 32 ≡ true
unfolding each_name in_place
all_in_place = refl

all_free : each_name free 32 ≡ true
unfolding each_name free
all_free = refl

pub name_place : (n : ℕ) → n < reg_number_count → place_in reg_names (reg_name n) ≡ n
unfolding in_place
name_place n h = eqb-true _ _ (each_holds in_place 32 n h all_in_place)

pub name_free : (n : ℕ) → n < reg_number_count → has_no_space (reg_name n) ≡ true
unfolding free
name_free n h = each_holds free 32 n h all_free

pub register_back : (n : ℕ) (ds : List ℕ) → n < reg_number_count → register_in (reg_name n ++ 32 ∷ ds) ≡ n
register_back n ds h = ap (place_in reg_names) (name_before_space (reg_name n) ds (name_free n h)) ∙ name_place n h

pub count_back : (n c : ℕ) → n < reg_number_count → c < 2 ^ 64 → count_in (reg_name n ++ 32 ∷ decimal c) ≡ c
count_back n c h k = ap (decimal_after 0) (digits_after_space (reg_name n) (decimal c) (name_free n h)) ∙ decimal_back c k

pub command_back : (c : Command) → command_with (place_in command_names (command_name_of c)) ≡ c
command_back command.Null = refl
command_back command.Wcfg = refl
command_back command.Mfw = refl
command_back command.Lfrm = refl
command_back command.Rcfg = refl
command_back command.Start = refl
command_back command.Rcap = refl
command_back command.Rcrc = refl
command_back command.Aghigh = refl
command_back command.Switch = refl
command_back command.Grestore = refl
command_back command.Shutdown = refl
command_back command.Gcapture = refl
command_back command.Desync = refl
command_back command.Iprog = refl
command_back command.Crcc = refl
command_back command.Ltimer = refl
command_back command.BspiRead = refl
command_back command.FallEdge = refl

pub guess_is : (l : Line) → FitsLine l → guess (text_of l) ≡ l
guess_is Empty h = refl
guess_is (Comment text) h = refl
guess_is (Bytes bs) h = ap Bytes (bytes_back bs h.0)
guess_is Sync h = refl
guess_is Nop h = refl
guess_is (Write n c) h = ap₂ Write (register_back n (decimal c) h.0) (count_back n c h.0 (omega arith))
guess_is (Read n c) h = ap₂ Read (register_back n (decimal c) h.0) (count_back n c h.0 (omega arith))
guess_is (Write2 c) h = ap Write2 (decimal_back c (omega (arith, h)))
guess_is (Read2 c) h = ap Read2 (decimal_back c (omega (arith, h)))
guess_is (Word w) h = ap Word (word_back w h)
guess_is (Data ws) h = ap Data (words_back ws h.0)
guess_is (Cmd c) h = ap Cmd (command_back c)
guess_is Check h = refl

pub line_is : (t : List ℕ) (l : Line) → IsLine t l → l ≡ guess t
line_is t l i = sym (ap guess i.text_is ∙ guess_is l i.fits)

pub one_line : (t : List ℕ) (a b : Line) → IsLine t a → IsLine t b → a ≡ b
one_line t a b i j = line_is t a i ∙ sym (line_is t b j)

-- Lemmas on specs/Fast/AtOnce, and what a lister stands for after what it lists at once.
use Rattle.std.proofs.Common.{◌≡◌, ℕ, zero, suc, ◌+◌, ◌*◌, ◌/◌, ◌%◌, ◌-◌, ◌<◌, ◌≤◌, ◌==◌, Bool, true, false, List, [], ◌∷◌, ◌++◌, codes, decimal, get_or, length, drop, take, take-add, take_all, length-drop, replicate, refl, ap, sym, subst, ◌∙◌, append_assoc, append-nil, arith, Bor}
use Rattle.std.proofs.Math.Nat.{mul-suc, mul-zero}
use Rattle.std.proofs.Math.Seq.{take-append-add}
use Rattle.std.proofs.lemmas.Bool.Decides.{nat_tests}
use Rattle.std.proofs.lemmas.Fmt.{decimal_digit, decimal_step}
use Rattle.std.proofs.lemmas.List.{length-take-le, take-take}
use Rattle.std.specs.Simd.{first_chunks}
use Rattle.std.specs.List.{flat_map}
use Rattle.x7_words.specs.Word.{bytes_of_word, words_of_bytes}
use Rattle.x7_packets.specs.AtOnce.{EndsGap, TakesAsOneRun, WritesShort, WritesOne}
use Rattle.x7_packets.specs.PacketWords.{no_op, sync_word, type1_write_header}
use Rattle.x7_packets.specs.SyncWord.{sync_bytes}
use Rattle.x7_packets.specs.Cutter.{CutterState, IsRun, AfterRun}
use Rattle.x7_packets.specs.Nops.{equal_bytes}
use Rattle.x7_packets.specs.Packet.{payload_steps, register_of, type1_count_of}
use Rattle.x7_packets.specs.declared.cutter.Cut.{Cut}
use Rattle.x7_packets.specs.declared.cutter.Cut.TheVariants.{Body, Head, Skip, Sync, Word}
use Rattle.x7_packets.specs.declared.header.Step.{Step}
use Rattle.x7_packets.specs.declared.header.Step.TheVariants.{Nop, Open}
use Rattle.x7_text.specs.Digits.{hex_byte, hex_word}
use Rattle.x7_text.specs.Row.{bytes_text, close, in_line_after, open_text}
use Rattle.x7_text.proofs.LineLemmas.{bytes_closed}
use Rattle.x7_regs.specs.Register.{reg_name, reg_number_count}
use Rattle.x7_listing.specs.Fast.AtOnce.{command_lines_text, write_line_text, write_name_text, write_start_text}
use Rattle.x7_listing.specs.HeadLine.{best_line, text_of_head}
use Rattle.x7_listing.specs.Line.{Write, cmd_line, ended_text}
use Rattle.x7_listing.specs.Lister.{GapListed, HasListedJust, in_line_after_words, open_words, WritesRun, lister_of, written_of}
use Rattle.x7_listing.proofs.GapLemmas.{listed_more}
use Rattle.x7_listing.proofs.RunLemmas.{by_body, by_head, by_skip, by_sync, by_word}
use Rattle.x7_listing.proofs.SessionLemmas.{data_listed, is_data}

-- ---- texts

-- the lines of a word in a header's place, this many times
abbrev pub equal_lines : Step → ℕ → ℕ → List ℕ
equal_lines step w zero = []
equal_lines step w (suc n) = text_of_head step w ++ equal_lines step w n

-- the lines of this many no-ops
abbrev pub nop_lines : ℕ → List ℕ
nop_lines n = equal_lines Nop no_op n

pub equal_block : (step : Step) (w n : ℕ) (line : List ℕ) → text_of_head step w ≡ line → flat_map (λ x. x) (replicate n line) ≡ equal_lines step w n
equal_block step w zero line e = refl
equal_block step w (suc n) line e = ap (λ t. line ++ t) (equal_block step w n line e) ∙ ap (λ t. t ++ equal_lines step w n) (sym e)

-- the first lines of a block
pub equal_prefix : (step : Step) (w size n k : ℕ) → length (text_of_head step w) ≡ size → k ≤ n → take (size * k) (equal_lines step w n) ≡ equal_lines step w k
equal_prefix step w size n zero e h = ap (λ (m : ℕ). take m (equal_lines step w n)) (mul-zero size)
equal_prefix step w size zero (suc k) e h = absurd (omega (arith, h))
equal_prefix step w size (suc n) (suc k) e h =
    let more : size * suc k ≡ length (text_of_head step w) + size * k = omega (arith, mul-suc size k, e) in
    ap (λ (m : ℕ). take m (text_of_head step w ++ equal_lines step w n)) more ∙ take-append-add (text_of_head step w) (equal_lines step w n) (size * k)
    ∙ ap (λ t. text_of_head step w ++ t) (equal_prefix step w size n k e (omega (arith, h)))

-- the header's line of a short write
pub short_line_is : (register count : ℕ) → register < reg_number_count → count < 20 → text_of_head (Open register count) (type1_write_header register count) ≡ write_name_text register ++ (decimal count ++ 10 ∷ [])
short_line_is register count h k =
    let nop : (type1_write_header register count == no_op) ≡ false = grind (arith, nat_tests) in
    let sync : (type1_write_header register count == sync_word) ≡ false = grind (arith, nat_tests) in
    let named : register_of (type1_write_header register count) ≡ register = omega arith in
    let number : type1_count_of (type1_write_header register count) ≡ count = omega arith in
    let same : (type1_write_header register count == type1_write_header register count) ≡ true = grind (arith, nat_tests) in
    let line : best_line (type1_write_header register count) ≡ Write register count = rw (nop, sync, named, number, same) refl in
    ap ended_text line ∙ append_assoc (codes "write " ++ reg_name register) (32 ∷ decimal count) (10 ∷ []) ∙ sym (append_assoc (codes "write " ++ reg_name register) (32 ∷ []) (decimal count ++ 10 ∷ []))

-- the header's line of a write of one word
pub write_line_is : (register : ℕ) → register < reg_number_count → text_of_head (Open register 1) (type1_write_header register 1) ≡ write_line_text register
write_line_is register h =
    short_line_is register 1 h (omega arith) ∙ ap (λ t. write_name_text register ++ (t ++ 10 ∷ [])) (decimal_digit 1 (omega arith))
    ∙ append_assoc (codes "write " ++ reg_name register) (32 ∷ []) (49 ∷ 10 ∷ [])

-- the lines of a write of one word: a row to CMD, and a row and the digits of a word to another register
pub command_row_is : (line register w : ℕ) → register ≡ 4 → close line ++ command_lines_text w ≡ close line ++ text_of_head (Open register 1) (type1_write_header register 1) ++ open_words 0 (payload_steps register (w ∷ []))
command_row_is line register w e =
    subst (λ (r : ℕ). close line ++ command_lines_text w ≡ close line ++ text_of_head (Open r 1) (type1_write_header r 1) ++ open_words 0 (payload_steps r (w ∷ []))) (sym e)
    (sym (append_assoc (close line) (write_line_text 4) (ended_text (cmd_line w))) ∙ ap (λ t. close line ++ t ++ ended_text (cmd_line w)) (sym (write_line_is 4 (omega arith))) ∙ ap (λ t. close line ++ text_of_head (Open 4 1) (type1_write_header 4 1) ++ t) (sym (append-nil (ended_text (cmd_line w)))))

pub data_row_is : (line register w : ℕ) → register < reg_number_count → (register ≡ 4 → ⊥) → (close line ++ write_start_text register) ++ hex_word w ≡ close line ++ text_of_head (Open register 1) (type1_write_header register 1) ++ open_words 0 (payload_steps register (w ∷ []))
data_row_is line register w h n =
    let H : List ℕ = write_line_text register in
    let listed : open_words 0 (payload_steps register (w ∷ [])) ≡ codes "data " ++ hex_word w =
    data_listed register 0 (w ∷ []) (is_data register n) ∙ append-nil _ ∙ ap (λ t. codes "data" ++ t) (append-nil (32 ∷ hex_word w)) in
    append_assoc (close line) (write_start_text register) (hex_word w) ∙ ap (λ t. close line ++ t) (append_assoc H (codes "data ") (hex_word w)) ∙ sym (append_assoc (close line) H (codes "data " ++ hex_word w))
    ∙ ap (λ t. close line ++ t ++ (codes "data " ++ hex_word w)) (sym (write_line_is register h)) ∙ ap (λ t. close line ++ text_of_head (Open register 1) (type1_write_header register 1) ++ t) (sym listed)

-- a count of two digits
pub two_digits : (n : ℕ) → 10 ≤ n → n < 20 → decimal n ≡ 49 ∷ (48 + (n - 10)) ∷ []
two_digits n h k =
    let tens : n / 10 ≡ 1 = omega arith in
    let ones : n % 10 ≡ n - 10 = omega arith in
    decimal_step n h (omega (arith, k)) ∙ ap (λ (m : ℕ). decimal m ++ (48 + n % 10) ∷ []) tens ∙ ap (λ t. t ++ (48 + n % 10) ∷ []) (decimal_digit 1 (omega arith)) ∙ ap (λ (m : ℕ). 49 ∷ (48 + m) ∷ []) ones

-- the first of many chunks
pub first_chunk : (size n : ℕ) (xs : List ℕ) → 0 < n → get_or (first_chunks size n xs) 0 [] ≡ take size xs
first_chunk size zero xs h = absurd (omega (arith, h))
first_chunk size (suc n) xs h = refl

pub prefix_of_prefix : (n count : ℕ) (xs block : List ℕ) → 4 * count ≤ 64 → 64 ≤ n → block ≡ take 64 (take n xs) → take (4 * count) block ≡ take (4 * count) xs
prefix_of_prefix n count xs block h k e = ap (take (4 * count)) e ∙ take-take (4 * count) 64 (take n xs) h ∙ take-take (4 * count) n xs (omega (arith, h, k))

pub short_written : (old t1 new head row listed : List ℕ) → t1 ≡ old ++ head → new ≡ t1 ++ row → row ≡ listed → new ≡ old ++ (head ++ listed)
short_written old t1 new head row listed a b e = b ∙ ap (λ t. t ++ row) a ∙ append_assoc old head row ∙ ap (λ t. old ++ (head ++ t)) e

-- ---- what a lister stands for

took_run : (c d : CutterState) (run : Cut) (synced s2 : Bool) (line l2 : ℕ) (held h2 text text2 given before bytes taken : List ℕ)
    → HasListedJust (lister_of c synced line held text) given before bytes → TakesAsOneRun c d taken run → IsRun run → WritesRun run (written_of synced line held (given ++ text)) (written_of s2 l2 h2 (given ++ text2)) → HasListedJust (lister_of d s2 l2 h2 text2) given before (bytes ++ taken)
took_run c d run synced s2 line l2 held h2 text text2 given before bytes taken s takes is writes =
    let w : AfterRun c d (bytes ++ taken) s.sessions s.at run = takes bytes s.sessions s.at s.cut in
    record {
      sessions = w.new_sessions;
      at = w.new_place;
      cut = w.stands;
      listed = writes before (bytes ++ taken) s.sessions w.new_sessions s.at w.new_place c.mode d.mode s.listed w.adds w.mode_changes is w.stands.reading;
    }

one_equal : (c : CutterState) (w : ℕ) (step : Step) (synced s2 : Bool) (line l2 from : ℕ) (held h2 text text2 given before bytes : List ℕ) → IsRun (Head w step) → TakesAsOneRun c c (bytes_of_word w) (Head w step) → (synced ≡ true → from ≡ line) → s2 ≡ true → l2 ≡ 0
    → text2 ≡ text ++ (close from ++ text_of_head step w) → HasListedJust (lister_of c synced line held text) given before bytes → HasListedJust (lister_of c s2 l2 h2 text2) given before (bytes ++ bytes_of_word w)
one_equal c w step synced s2 line l2 from held h2 text text2 given before bytes is takes same e f t s =
    took_run c c (Head w step) synced s2 line l2 held h2 text text2 given before bytes (bytes_of_word w) s takes is
    (by_head (Head w step) synced s2 line l2 from held h2 given text text2 w step refl same e f t)

-- equal words after a line that has its end
more_equal : (n : ℕ) (c : CutterState) (w : ℕ) (step : Step) (line : ℕ) (held text text2 given before bytes : List ℕ) → IsRun (Head w step) → TakesAsOneRun c c (bytes_of_word w) (Head w step) → line ≡ 0 → text2 ≡ text ++ equal_lines step w n
    → HasListedJust (lister_of c true line held text) given before bytes → HasListedJust (lister_of c true line held text2) given before (bytes ++ equal_bytes w n)
more_equal zero c w step line held text text2 given before bytes is takes f t s =
    let same : text ≡ text2 = sym (t ∙ append-nil text) in
    subst (λ (x : List ℕ). HasListedJust (lister_of c true line held x) given before (bytes ++ [])) same (subst (HasListedJust (lister_of c true line held text) given before) (sym (append-nil bytes)) s)
more_equal (suc n) c w step line held text text2 given before bytes is takes f t s =
    let next : List ℕ = text ++ text_of_head step w in
    let one : HasListedJust (lister_of c true line held next) given before (bytes ++ bytes_of_word w) = one_equal c w step true true line line 0 held held text next given before bytes is takes (λ e. sym f) refl f refl s in
    let all : HasListedJust (lister_of c true line held text2) given before ((bytes ++ bytes_of_word w) ++ equal_bytes w n) =
    more_equal n c w step line held next text2 given before (bytes ++ bytes_of_word w) is takes f (t ∙ sym (append_assoc text (text_of_head step w) (equal_lines step w n))) one in
    subst (HasListedJust (lister_of c true line held text2) given before) (append_assoc bytes (bytes_of_word w) (equal_bytes w n)) all

pub equal_listed : (n : ℕ) (c : CutterState) (w : ℕ) (step : Step) (synced s2 : Bool) (line l2 from : ℕ) (held h2 text text1 text2 given before bytes : List ℕ) → 0 < n → IsRun (Head w step) → TakesAsOneRun c c (bytes_of_word w) (Head w step) → (synced ≡ true → from ≡ line) → s2 ≡ true → l2 ≡ 0
    → text1 ≡ text ++ close from → text2 ≡ text1 ++ equal_lines step w n → HasListedJust (lister_of c synced line held text) given before bytes → HasListedJust (lister_of c s2 l2 h2 text2) given before (bytes ++ equal_bytes w n)
equal_listed zero c w step synced s2 line l2 from held h2 text text1 text2 given before bytes some is takes same e f a b s = absurd (omega (arith, some))
equal_listed (suc n) c w step synced s2 line l2 from held h2 text text1 text2 given before bytes some is takes same e f a b s =
    let next : List ℕ = text ++ (close from ++ text_of_head step w) in
    let one : HasListedJust (lister_of c true l2 h2 next) given before (bytes ++ bytes_of_word w) = one_equal c w step synced true line l2 from held h2 text next given before bytes is takes same refl f refl s in
    let all : HasListedJust (lister_of c true l2 h2 text2) given before ((bytes ++ bytes_of_word w) ++ equal_bytes w n) =
    more_equal n c w step l2 h2 next text2 given before (bytes ++ bytes_of_word w) is takes f
    (b ∙ ap (λ t. t ++ (text_of_head step w ++ equal_lines step w n)) a ∙ sym (append_assoc (text ++ close from) (text_of_head step w) (equal_lines step w n)) ∙ ap (λ t. t ++ equal_lines step w n) (append_assoc text (close from) (text_of_head step w))) one in
    subst (λ (x : Bool). HasListedJust (lister_of c x l2 h2 text2) given before (bytes ++ equal_bytes w (suc n))) (sym e) (subst (HasListedJust (lister_of c true l2 h2 text2) given before) (append_assoc bytes (bytes_of_word w) (equal_bytes w n)) all)

pub write_listed : (c d : CutterState) (synced s2 : Bool) (line l2 from register w : ℕ) (held h2 text text2 given before bytes rest : List ℕ) → WritesOne c d rest register w → (synced ≡ true → from ≡ line) → s2 ≡ true
    → l2 ≡ in_line_after_words 0 (payload_steps register (w ∷ [])) → text2 ≡ text ++ (close from ++ text_of_head (Open register 1) (type1_write_header register 1) ++ open_words 0 (payload_steps register (w ∷ [])))
    → HasListedJust (lister_of c synced line held text) given before bytes → HasListedJust (lister_of d s2 l2 h2 text2) given before (bytes ++ take 8 rest)
write_listed c d synced s2 line l2 from register w held h2 text text2 given before bytes rest x same e f t s =
    let H : List ℕ = text_of_head (Open register 1) (type1_write_header register 1) in
    let D : List ℕ = open_words 0 (payload_steps register (w ∷ [])) in
    let head : List ℕ = bytes_of_word (type1_write_header register 1) in
    let next : List ℕ = text ++ (close from ++ H) in
    let one : HasListedJust (lister_of x.middle true 0 [] next) given before (bytes ++ head) =
    took_run c x.middle (Head (type1_write_header register 1) (Open register 1)) synced true line 0 held [] text next given before bytes head s x.head tt
    (by_head (Head (type1_write_header register 1) (Open register 1)) synced true line 0 from held [] given text next (type1_write_header register 1) (Open register 1) refl same refl refl refl) in
    let two : HasListedJust (lister_of d s2 l2 h2 text2) given before ((bytes ++ head) ++ bytes_of_word w) =
    took_run x.middle d (Word register w) true s2 0 l2 [] h2 next text2 given before (bytes ++ head) (bytes_of_word w) one x.word x.begins.range
    (by_word (Word register w) true s2 0 l2 0 [] h2 given next text2 register w refl (λ k. refl) e f (t ∙ sym (append_assoc text (close from ++ H) D))) in
    subst (HasListedJust (lister_of d s2 l2 h2 text2) given before) (append_assoc bytes head (bytes_of_word w) ∙ ap (λ k. bytes ++ k) (sym x.begins.are)) two

-- a write of a few words: `lent` is any slice
pub short_listed : (c d : CutterState) (synced s2 : Bool) (line l2 from register count : ℕ) (held h2 text text2 given before bytes rest ws : List ℕ) (lent : Bor (List ℕ)) → WritesShort c d rest register count → ws ≡ words_of_bytes (take (4 * count) (drop 4 rest))
    → (synced ≡ true → from ≡ line) → s2 ≡ true → l2 ≡ in_line_after_words 0 (payload_steps register ws) → text2 ≡ text ++ (close from ++ text_of_head (Open register count) (type1_write_header register count) ++ open_words 0 (payload_steps register ws))
    → HasListedJust (lister_of c synced line held text) given before bytes → HasListedJust (lister_of d s2 l2 h2 text2) given before (bytes ++ take (4 + 4 * count) rest)
short_listed c d synced s2 line l2 from register count held h2 text text2 given before bytes rest ws lent x are same e f t s =
    let H : List ℕ = text_of_head (Open register count) (type1_write_header register count) in
    let body : List ℕ = take (4 * count) (drop 4 rest) in
    let run : Bor (List ℕ) = record lent { now = take (4 * count) (drop 4 rest) } in
    let size : length (take (4 * count) (drop 4 rest)) ≡ 4 * count = length-take-le (4 * count) (drop 4 rest) (omega (arith, length-drop 4 rest, x.long, x.few)) in
    let head : List ℕ = bytes_of_word (type1_write_header register count) in
    let next : List ℕ = text ++ (close from ++ text_of_head (Open register count) (type1_write_header register count)) in
    let D : List ℕ = open_words 0 (payload_steps register (words_of_bytes (take (4 * count) (drop 4 rest)))) in
    let one : HasListedJust (lister_of x.middle true 0 [] next) given before (bytes ++ bytes_of_word (type1_write_header register count)) =
    took_run c x.middle (Head (type1_write_header register count) (Open register count)) synced true line 0 held [] text next given before bytes (bytes_of_word (type1_write_header register count)) s x.head tt
    (by_head (Head (type1_write_header register count) (Open register count)) synced true line 0 from held [] given text next (type1_write_header register count) (Open register count) refl same refl refl refl) in
    let two : HasListedJust (lister_of d s2 l2 h2 text2) given before ((bytes ++ bytes_of_word (type1_write_header register count)) ++ take (4 * count) (drop 4 rest)) =
    took_run x.middle d (Body register run) true s2 0 l2 [] h2 next text2 given before (bytes ++ bytes_of_word (type1_write_header register count)) (take (4 * count) (drop 4 rest)) one (x.words run refl)
    (x.range, omega (arith, size, x.some), omega (arith, size), λ k. absurd (x.other k))
    (by_body (Body register run) true s2 0 l2 0 [] h2 given next text2 register run refl (λ k. refl) e (f ∙ ap (λ (w : List ℕ). in_line_after_words 0 (payload_steps register w)) are)
    (t ∙ ap (λ (w : List ℕ). text ++ (close from ++ text_of_head (Open register count) (type1_write_header register count) ++ open_words 0 (payload_steps register w))) are ∙ sym (append_assoc text (close from ++ H) D))) in
    subst (HasListedJust (lister_of d s2 l2 h2 text2) given before)
    (append_assoc bytes (bytes_of_word (type1_write_header register count)) (take (4 * count) (drop 4 rest))
    ∙ ap (λ k. bytes ++ (k ++ take (4 * count) (drop 4 rest))) (sym x.bytes) ∙ ap (λ k. bytes ++ k) (sym (take-add 4 (4 * count) rest))) two

-- bytes of a gap and the sync word, after a session
gap_begun : (given text text1 start : List ℕ) (gap taken listed : List ℕ) → taken ≡ listed ++ sync_bytes → text1 ≡ text ++ open_text 32 (codes "bytes ") hex_byte 0 listed
    → GapListed (given ++ text) start 0 [] gap → GapListed (given ++ text1) start (in_line_after 32 0 listed) sync_bytes (gap ++ taken)
gap_begun given text text1 start gap taken listed e f g = listed_more given text text1 start 0 (in_line_after 32 0 listed) [] sync_bytes gap taken listed g e refl f refl

pub gap_listed : (c d : CutterState) (synced s2 : Bool) (line l2 count : ℕ) (held h2 text text2 given before bytes rest : List ℕ) (lent : Bor (List ℕ)) → EndsGap c d rest count → synced ≡ true → s2 ≡ true → l2 ≡ 0
    → text2 ≡ text ++ (bytes_text (take count rest) ++ codes "sync\n") → HasListedJust (lister_of c synced line held text) given before bytes → HasListedJust (lister_of d s2 l2 h2 text2) given before (bytes ++ take (count + 4) rest)
gap_listed c d false s2 line l2 count held h2 text text2 given before bytes rest lent x is e f t s = absurd (cc)
gap_listed c d true s2 line l2 count held h2 text text2 given before bytes rest lent x is e f t s =
    let listed : List ℕ = take count rest in
    let shown : List ℕ = open_text 32 (codes "bytes ") hex_byte 0 (take count rest) in
    let open_line : ℕ = in_line_after 32 0 (take count rest) in
    let run : Bor (List ℕ) = record lent { now = take (count + 4) rest } in
    let size : length (take (count + 4) rest) ≡ count + 4 = length-take-le (count + 4) rest (omega (arith, x.long, x.near)) in
    let text1 : List ℕ = text ++ open_text 32 (codes "bytes ") hex_byte 0 (take count rest) in
    let one : HasListedJust (lister_of x.middle false (in_line_after 32 0 (take count rest)) sync_bytes text1) given before (bytes ++ take (count + 4) rest) =
    took_run c x.middle (Skip run) true false line (in_line_after 32 0 (take count rest)) held sync_bytes text text1 given before bytes (take (count + 4) rest) s (x.gap run refl) (omega (arith, size))
    (by_skip (Skip run) run true false line 0 (in_line_after 32 0 (take count rest)) held [] sync_bytes given text text1 refl refl refl refl (λ given start gap g. gap_begun given text text1 start gap (take (count + 4) rest) (take count rest) x.found refl g)) in
    let two : HasListedJust (lister_of d s2 l2 h2 text2) given before ((bytes ++ take (count + 4) rest) ++ []) =
    took_run x.middle d Sync false s2 (in_line_after 32 0 (take count rest)) l2 sync_bytes h2 text1 text2 given before (bytes ++ take (count + 4) rest) [] one x.sync tt
    (by_sync Sync false s2 (in_line_after 32 0 (take count rest)) l2 (in_line_after 32 0 (take count rest)) sync_bytes h2 given text1 text2 refl (λ k. refl) e f
    (t ∙ ap (λ (k : List ℕ). text ++ (k ++ codes "sync\n")) (sym (bytes_closed (take count rest))) ∙ ap (λ (k : List ℕ). text ++ k) (append_assoc (open_text 32 (codes "bytes ") hex_byte 0 (take count rest)) (close (in_line_after 32 0 (take count rest))) (codes "sync\n"))
    ∙ sym (append_assoc text (open_text 32 (codes "bytes ") hex_byte 0 (take count rest)) (close (in_line_after 32 0 (take count rest)) ++ codes "sync\n")))) in
    subst (HasListedJust (lister_of d s2 l2 h2 text2) given before) (append-nil (bytes ++ take (count + 4) rest)) two

-- the bytes that are left of a piece, and some of them after those before
pub rest_length : (piece : List ℕ) (at : ℕ) → at ≤ length piece → length (take (length piece - at) (drop at piece)) ≡ length piece - at
rest_length piece at h = length-take-le (length piece - at) (drop at piece) (omega (arith, length-drop at piece))

pub seam : (piece bytes taken : List ℕ) (at k : ℕ) → at ≤ length piece → take k (take (length piece - at) (drop at piece)) ≡ taken → (bytes ++ take at piece) ++ taken ≡ bytes ++ take (at + k) piece
seam piece bytes taken at k h e =
    let rest : take (length piece - at) (drop at piece) ≡ drop at piece = take_all (length piece - at) (drop at piece) (omega (arith, length-drop at piece)) in
    append_assoc bytes (take at piece) taken ∙ ap (λ t. bytes ++ t) (ap (λ t. take at piece ++ t) (sym e ∙ ap (take k) rest) ∙ sym (take-add at k piece))

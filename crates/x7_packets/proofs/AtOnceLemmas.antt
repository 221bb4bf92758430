-- Lemmas on specs/AtOnce.
use Rattle.std.proofs.Common.{◌≡◌, ℕ, ◌^◌, ◌<◌, ◌≤◌, ◌+◌, ◌*◌, ◌==◌, Bool, Bor, List, [], ◌∷◌, ◌++◌, Option, Some, true, false, if◌then◌else◌, inl, inr, get_or, length, length-drop, length-take-le, take, take-add, drop, map, refl, ap, sym, subst, ◌∙◌, append-nil, arith}
use Rattle.std.proofs.lemmas.List.{take-append-drop}
use Rattle.std.proofs.lemmas.Bool.Decides.{nat_tests}
use Rattle.std.specs.List.{flat_map}
use Rattle.x7_words.specs.Word.{AreBytes, AreWords, bytes_of_word, words_of_bytes}
use Rattle.x7_words.proofs.ListLemmas.{all_append, all_back, all_take}
use Rattle.x7_words.proofs.WordLemmas.{bytes_words, length_words, words_fit, word_bytes}
use Rattle.x7_packets.specs.Matching.{IsClear, IsFirstSync, MatcherStandsFor}
use Rattle.x7_packets.specs.SyncWord.{sync_bytes}
use Rattle.x7_packets.specs.declared.header.Step.{Step}
use Rattle.x7_packets.specs.declared.header.Step.TheVariants.{Nop, Open, Payload}
use Rattle.x7_packets.specs.declared.cutter.Cut.TheVariants.{Body, Head, Skip}
use Rattle.x7_packets.specs.Mode.{Mode}
use Rattle.x7_packets.specs.AtOnce.{BeginsWrite, EndsGap, in_write, longest_gap_and_sync, longest_short_write, most_short_words, short_gap_room, write_head_step, WritesShort, WritesOne}
use Rattle.x7_packets.specs.Cutter.{AtPlace, CutterState, CutterStandsFor, LongerSession, AfterRun, TakesAsOneRun}
use Rattle.x7_packets.specs.PacketWords.{dummy_word, no_op, sync_word, type1_count_bound, type1_write_header, type1_write_kind}
use Rattle.x7_packets.specs.Packet.{Packet, ends_session, meaning, packet_type_of, payload_steps, register_of, type1_count_of, header_kind_of}
use Rattle.x7_packets.specs.Reading.{EndedSession, Place, Searching, Synced, packet_bytes, session_bytes}
use Rattle.x7_packets.specs.Machine.{AddsWords, HasTakenWords, MachineStandsFor, MachineState, session_ends_by, is_end}
use Rattle.x7_packets.proofs.CutLemmas.{body_more, joined_more, packet_bytes_grown, skip_found, sync_given, word_more}
use Rattle.x7_packets.proofs.NopLemmas.{nop_grows}
use Rattle.x7_packets.proofs.PacketLemmas.{words_of_payload}
use Rattle.x7_packets.proofs.SearchLemmas.{found_clear, up_to_sync}
use Rattle.x7_packets.proofs.TakeLemmas.{calm_words, header_opens, payload_ends, payload_goes, payload_goes_on}
use Rattle.x7_regs.specs.Register.{reg_number_count}

-- ---- a machine

write_means : (latest : Option ℕ) (register count : ℕ) → register < reg_number_count → count < type1_count_bound → Open register count ≡ meaning latest (type1_write_header register count)
write_means latest register count h k =
    let sync : (type1_write_header register count == sync_word) ≡ false = grind (arith, nat_tests) in
    let ones : (type1_write_header register count == dummy_word) ≡ false = grind (arith, nat_tests) in
    let zero_type : (packet_type_of (type1_write_header register count) == 0) ≡ false = grind (arith, nat_tests) in
    let kind : header_kind_of (type1_write_header register count) ≡ type1_write_kind = omega arith in
    let named : register_of (type1_write_header register count) ≡ register = omega arith in
    let number : type1_count_of (type1_write_header register count) ≡ count = omega arith in
    rw (sync, ones, zero_type, kind, named, number) refl

pub write_opens : (m : MachineState) (ps : List Packet) (register count : ℕ) → register < reg_number_count → 0 < count → count < type1_count_bound → m.due ≡ 0 → MachineStandsFor m ps
    → HasTakenWords ps ((type1_write_header register count, Open register count) ∷ []) (in_write register count)
write_opens m ps register count h some few none (inl a) = header_opens m (in_write register count) ps (type1_write_header register count) register count (omega arith) a (write_means m.latest register count h few) some refl refl refl
write_opens m ps register count h some few none (inr a) = absurd (omega (arith, none, a.more))

pub write_goes_on : (n : MachineState) (ps : List Packet) (register w : ℕ) → w < 2 ^ 32 → ends_session register w ≡ false → n.latest ≡ Some register → n.register ≡ register → n.due ≡ 0
    → MachineStandsFor (in_write register 1) ps → HasTakenWords ps ((w, Payload register w) ∷ []) n
write_goes_on n ps register w f e l r d (inl a) = absurd (omega (arith, a.due))
write_goes_on n ps register w f e l r d (inr a) = payload_goes (in_write register 1) n ps w f a e r l (omega arith)

pub write_closes : (n : MachineState) (ps : List Packet) (register w : ℕ) → w < 2 ^ 32 → ends_session register w ≡ true → MachineStandsFor n [] → MachineStandsFor (in_write register 1) ps → HasTakenWords ps ((w, Payload register w) ∷ []) n
write_closes n ps register w f e s (inl a) = absurd (omega (arith, a.due))
write_closes n ps register w f e s (inr a) = payload_ends (in_write register 1) n ps w f a e s

pub words_go_on : (n : MachineState) (ps : List Packet) (register : ℕ) (ws : List ℕ) → AreWords ws → (register ≡ 4 → ⊥) → 0 < length ws → n.latest ≡ Some register → n.register ≡ register → n.due ≡ 0
    → MachineStandsFor (in_write register (length ws)) ps → HasTakenWords ps (payload_steps register ws) n
words_go_on n ps register ws f other some l r d (inl a) = absurd (omega (arith, a.due, some))
words_go_on n ps register ws f other some l r d (inr a) = payload_goes_on (in_write register (length ws)) n ps ws f a other some r l (omega (arith, d))

-- ---- a cutter

-- a cutter after further words of a session that goes on
record GoesOn (n : CutterState) (bytes : List ℕ) (sessions : List EndedSession) (gap : List ℕ) (packets : List Packet) (more : List (ℕ × Step)) : Type 0 where
  new : Place
  stands : CutterStandsFor n bytes sessions new
  longer : LongerSession gap packets more sessions sessions new

goes_on : (c n : CutterState) (w : ℕ) (step : Step) (bytes : List ℕ) (sessions : List EndedSession) (gap tail : List ℕ) (packets : List Packet) → c.mode ≡ Mode.Synced → n.mode ≡ Mode.Synced → c.kept ≡ [] → n.kept ≡ []
    → is_end step ≡ false → ((ps : List Packet) → MachineStandsFor c.machine ps → HasTakenWords ps ((w, step) ∷ []) n.machine)
    → CutterStandsFor c bytes sessions (Synced gap packets tail) → GoesOn n (bytes ++ bytes_of_word w) sessions gap packets ((w, step) ∷ [])
goes_on c n w step bytes sessions gap tail packets is to none none2 calm grows s =
    let h : MachineStandsFor c.machine packets × (tail ≡ c.kept) = rw is at s.at in
    let g : HasTakenWords packets ((w, step) ∷ []) n.machine = grows packets h.0 in
    let goes : MachineStandsFor n.machine g.packets = rw calm at g.stands in
    let joined : bytes ++ bytes_of_word w ≡ flat_map session_bytes sessions ++ (gap ++ sync_bytes ++ packet_bytes g.packets) =
    joined_more (flat_map session_bytes sessions) bytes gap tail (bytes_of_word w) (packet_bytes g.packets) (packet_bytes packets) (bytes_of_word w) s.reading.joined
    (packet_bytes_grown packets g.packets ((w, step) ∷ []) g.grown ∙ ap (λ t. packet_bytes packets ++ t) (append-nil (bytes_of_word w))) (ap (λ t. t ++ bytes_of_word w) (sym (h.1 ∙ none))) in
    record {
      new = Synced gap g.packets [];
      stands = record {
        reading = record {
          fits = all_append (λ b. b < 256) bytes (bytes_of_word w) s.reading.fits (word_bytes w);
          joined = joined ∙ ap (λ t. flat_map session_bytes sessions ++ t) (sym (append-nil (gap ++ sync_bytes ++ packet_bytes g.packets)));
          each = s.reading.each;
          ends = (s.reading.ends.0, g.each, g.end ∙ calm, omega arith);
        };
        at = rw to (goes, sym none2);
      };
      longer = record { all = g.packets; grown = g.grown; end = g.end; ends = λ e. absurd (let f : true ≡ false = sym e ∙ g.end ∙ calm in cc); goes_on = λ e. (refl, refl) };
    }

pub takes_head : (c n : CutterState) (w : ℕ) (step : Step) → c.mode ≡ Mode.Synced → n.mode ≡ Mode.Synced → c.kept ≡ [] → n.kept ≡ [] → is_end step ≡ false
    → ((ps : List Packet) → MachineStandsFor c.machine ps → HasTakenWords ps ((w, step) ∷ []) n.machine) → TakesAsOneRun c n (bytes_of_word w) (Head w step)
takes_head c n w step is to none none2 calm grows bytes sessions (Searching gap) s = absurd (let h : AtPlace c Mode.Synced (Searching gap) = rw is at s.at in h)
takes_head c n w step is to none none2 calm grows bytes sessions (Synced gap packets tail) s =
    let g : GoesOn n (bytes ++ bytes_of_word w) sessions gap packets ((w, step) ∷ []) = goes_on c n w step bytes sessions gap tail packets is to none none2 calm grows s in
    record { new_sessions = sessions; new_place = g.new; stands = g.stands; adds = g.longer; mode_changes = (λ e. absurd (let f : Mode.Synced ≡ Mode.SyncFound = sym is ∙ e in cc), λ e. absurd (let f : Mode.Synced ≡ Mode.SyncFound = sym to ∙ e in cc)) }

pub takes_nop : (c : CutterState) → c.mode ≡ Mode.Synced → c.kept ≡ [] → c.machine.due ≡ 0 → TakesAsOneRun c c (bytes_of_word no_op) (Head no_op Nop)
takes_nop c is none due = takes_head c c no_op Nop is is none none refl (λ ps s. nop_grows c.machine ps due s)

-- bytes that begin with the header of a type 1 write of one word and with the word begin with that write
pub begins_write : (bytes head word rest : List ℕ) (register h w : ℕ) → head ≡ take 4 bytes → rest ≡ drop 4 bytes → word ≡ take 4 rest → 8 ≤ length bytes → bytes_of_word h ≡ head → bytes_of_word w ≡ word → h ≡ type1_write_header register 1 → register < reg_number_count → w < 2 ^ 32 → BeginsWrite bytes register w
begins_write bytes head word rest register h w a r b long e f g range fits = record {
  range = range;
  fits = fits;
  whole = long;
  are = take-add 4 4 bytes ∙ ap (λ t. t ++ take 4 (drop 4 bytes)) (sym a ∙ sym e ∙ ap bytes_of_word g) ∙ ap (λ t. bytes_of_word (type1_write_header register 1) ++ t) (ap (take 4) (sym r) ∙ sym b ∙ sym f);
}

pub writes_one : (old new : CutterState) (bs : List ℕ) (register w : ℕ) → old.mode ≡ Mode.Synced
    → new.mode ≡ (if ends_session register w then Mode.Searching else Mode.Synced) → (ends_session register w ≡ true → MatcherStandsFor new.matcher [])
    → old.kept ≡ [] → new.kept ≡ [] → BeginsWrite bs register w
    → AddsWords old.machine (write_head_step register 1 ∷ []) (in_write register 1) → AddsWords (in_write register 1) ((w, Payload register w) ∷ []) new.machine
    → WritesOne old new bs register w
writes_one old new bs register w is to matcher none none2 begins opens ends =
    let middle : CutterState = record { mode = Mode.Synced; matcher = old.matcher; machine = in_write register 1; kept = [] } in
    record {
      middle = middle;
      begins = begins;
      head = takes_head old middle (type1_write_header register 1) (Open register 1) is refl none refl refl opens;
      word = λ bytes sessions place s. word_more middle new bytes (bytes_of_word w) sessions place register w s refl ends (word_bytes w) refl none2 to matcher;
      none_kept = none2;
    }

-- the bytes of the first word
first_four : (bs : List ℕ) → 4 ≤ length bs → take 4 bs ≡ get_or bs 0 0 ∷ get_or bs 1 0 ∷ get_or bs 2 0 ∷ get_or bs 3 0 ∷ []
first_four [] l = absurd (omega arith)
first_four (a ∷ []) l = absurd (omega arith)
first_four (a ∷ b ∷ []) l = absurd (omega arith)
first_four (a ∷ b ∷ c ∷ []) l = absurd (omega arith)
first_four (a ∷ b ∷ c ∷ d ∷ bs) l = refl

-- payload words of a register other than CMD, all that are due
takes_words : (c n : CutterState) (register count : ℕ) (run : Bor (List ℕ)) → c.mode ≡ Mode.Synced → n.mode ≡ Mode.Synced → c.kept ≡ [] → n.kept ≡ [] → AreBytes run.now → length run.now ≡ 4 * count → 0 < count → (register ≡ 4 → ⊥)
    → c.machine ≡ in_write register count → ((ws : List ℕ) → AreWords ws → 0 < length ws → AddsWords (in_write register (length ws)) (payload_steps register ws) n.machine) → TakesAsOneRun c n run.now (Body register run)
takes_words c n register count run is to none none2 fits long some other machine grows bytes sessions place s =
    let ws : List ℕ = words_of_bytes run.now in
    let number : length (words_of_bytes run.now) ≡ count = length_words run.now count long in
    let same : c.machine ≡ in_write register (length (words_of_bytes run.now)) = machine ∙ ap (in_write register) (sym number) in
    let all : AddsWords c.machine (payload_steps register (words_of_bytes run.now)) n.machine =
    λ ps t. grows (words_of_bytes run.now) (words_fit run.now fits) (omega (arith, number, some)) ps (subst (λ (m : MachineState). MachineStandsFor m ps) same t) in
    let word : flat_map bytes_of_word (map (λ (x : ℕ × Step). x.0) (payload_steps register (words_of_bytes run.now))) ≡ c.kept ++ run.now =
    ap (flat_map bytes_of_word) (words_of_payload register (words_of_bytes run.now)) ∙ bytes_words run.now count fits long ∙ ap (λ t. t ++ run.now) (sym none) in
    let calm : session_ends_by (payload_steps register (words_of_bytes run.now)) ≡ false = calm_words register (words_of_bytes run.now) other in
    body_more c n bytes run.now sessions place register run s is all fits word none2 (to ∙ ap (λ (b : Bool). if b then Mode.Searching else Mode.Synced) (sym calm)) (λ e. absurd (let f : true ≡ false = sym e ∙ calm in cc))

pub writes_short : (old new : CutterState) (bs : List ℕ) (head register count : ℕ) → old.mode ≡ Mode.Synced → new.mode ≡ Mode.Synced → old.kept ≡ [] → new.kept ≡ [] → longest_short_write ≤ length bs → AreBytes bs
    → bytes_of_word head ≡ get_or bs 0 0 ∷ get_or bs 1 0 ∷ get_or bs 2 0 ∷ get_or bs 3 0 ∷ [] → head ≡ type1_write_header register count → register < reg_number_count → (register ≡ 4 → ⊥) → 0 < count → count ≤ most_short_words
    → ((n : ℕ) → 0 < n → n < type1_count_bound → AddsWords old.machine (write_head_step register n ∷ []) (in_write register n))
    → ((ws : List ℕ) → AreWords ws → 0 < length ws → AddsWords (in_write register (length ws)) (payload_steps register ws) new.machine)
    → WritesShort old new bs register count
writes_short old new bs head register count is to none none2 long fits e g range other some few opens goes =
    let middle : CutterState = record { mode = Mode.Synced; matcher = old.matcher; machine = in_write register count; kept = [] } in
    let after : AreBytes (drop 4 bs) = all_back (λ b. b < 256) (take 4 bs) (drop 4 bs) (subst AreBytes (sym (take-append-drop 4 bs)) fits) in
    let size : length (take (4 * count) (drop 4 bs)) ≡ 4 * count = length-take-le (4 * count) (drop 4 bs) (omega (arith, length-drop 4 bs, long, few)) in
    record {
      middle = middle;
      range = range;
      other = other;
      some = some;
      few = few;
      long = long;
      bytes = first_four bs (omega (arith, long)) ∙ sym e ∙ ap bytes_of_word g;
      head = takes_head old middle (type1_write_header register count) (Open register count) is refl none refl refl (opens count some (omega (arith, few)));
      words = λ run f. takes_words middle new register count run refl to refl none2 (subst AreBytes (sym f) (all_take (λ b. b < 256) (4 * count) (drop 4 bs) after)) (ap length f ∙ size) some other refl goes;
      none_kept = none2;
    }

-- a register of which it is known that it isn't CMD
pub other_register : (register : ℕ) (b : Bool) → b ≡ (register == 4) → b ≡ false → register ≡ 4 → ⊥
other_register register b e f g = absurd (let h : true ≡ false = ap (λ r. r == 4) (sym g) ∙ sym e ∙ f in cc)

-- ---- a gap

pub ends_gap : (old new : CutterState) (bs : List ℕ) (count : ℕ) → old.mode ≡ Mode.Searching → new.mode ≡ Mode.Synced → new.machine ≡ old.machine → new.kept ≡ [] → IsClear old.matcher
    → short_gap_room ≤ length bs → AreBytes bs → count + 4 ≤ longest_gap_and_sync → IsFirstSync bs count → EndsGap old new bs count
ends_gap old new bs count is to same none2 clear long fits near i =
    let middle : CutterState = record { mode = Mode.SyncFound; matcher = old.matcher; machine = old.machine; kept = [] } in
    record {
      middle = middle;
      near = near;
      long = long;
      found = up_to_sync bs count i.here;
      gap = λ run e bytes sessions place s.
          subst (λ (t : List ℕ). AfterRun old middle (bytes ++ t) sessions place (Skip run)) (sym e)
          (skip_found old middle bytes bs run (count + 4) sessions place s is refl refl (λ gap m n. found_clear old.matcher old.matcher gap bs count clear i m n) e (all_take (λ b. b < 256) (count + 4) bs fits));
      sync = λ bytes sessions place s. sync_given middle new bytes sessions place s refl to same none2;
      none_kept = none2;
    }

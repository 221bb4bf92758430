-- Lemmas on specs/Cutter: what a cutter stands for after each kind of run.
use Rattle.std.proofs.Common.{◌≡◌, ℕ, ◌+◌, ◌<◌, ◌≤◌, Bool, true, false, List, [], ◌∷◌, ◌++◌, None, Some, inl, inr, length, map, take, Bor, refl, ap, sym, ◌∙◌, append_assoc, append-nil, if◌then◌else◌, arith, length-append, length-take-le, take_all}
use Rattle.std.specs.List.{flat_map}
use Rattle.std.proofs.lemmas.Grind.{flat_map-append}
use Rattle.x7_words.specs.Word.{AreBytes, bytes_of_word}
use Rattle.x7_words.proofs.ListLemmas.{all_append}
use Rattle.x7_packets.specs.SyncWord.{sync_bytes, HasNoSync}
use Rattle.x7_packets.specs.Matching.{MatcherStandsFor, IsSearchOutcome}
use Rattle.x7_packets.specs.Packet.{Packet, words, stepped}
use Rattle.x7_packets.specs.Machine.{MachineStandsFor, HasTakenWords, session_ends_by}
use Rattle.x7_packets.specs.Reading.{Place, Searching, Synced, EndedSession, IsReading, IsEndedSession, packet_bytes, session_bytes}
use Rattle.x7_packets.specs.Cutter.{CutterState, CutterStandsFor, AtPlace, CutsRun, KeepsNone, LongerSession, AfterRun, run_steps}
use Rattle.x7_packets.specs.declared.header.Step.{Step}
use Rattle.x7_packets.specs.declared.header.Step.TheVariants.{Payload}
use Rattle.x7_packets.specs.Mode.{Mode}
use Rattle.x7_packets.specs.declared.cutter.Cut.TheVariants.{Need, Skip, Sync, Head, Word, Body}
use Rattle.x7_packets.proofs.PacketLemmas.{words_grown}
use Rattle.x7_packets.proofs.SyncLemmas.{none_empty}

-- a cutter that took no byte
pub fresh : (n : CutterState) → n.mode ≡ Mode.Searching → MatcherStandsFor n.matcher [] → MachineStandsFor n.machine [] → CutterStandsFor n [] [] (Searching [])
fresh n is m a = record { reading = record { fits = tt; joined = refl; each = tt; ends = none_empty }; at = rw is (m, a) }

more_bytes : (bytes more : List ℕ) → AreBytes bytes → AreBytes more → AreBytes (bytes ++ more)
more_bytes = all_append (λ b. b < 256)

-- fewer bytes than a word lacks
pub kept_more : (c n : CutterState) (bytes more : List ℕ) (sessions : List EndedSession) (place : Place) → CutterStandsFor c bytes sessions place
    → c.mode ≡ Mode.Synced → n.mode ≡ Mode.Synced → n.machine ≡ c.machine → n.kept ≡ c.kept ++ more → length c.kept + length more < 4 → AreBytes more
    → AfterRun c n (bytes ++ more) sessions place Need
kept_more c n bytes more sessions (Searching gap) s is to same kept short fits = absurd (let h : AtPlace c Mode.Synced (Searching gap) = rw is at s.at in h)
kept_more c n bytes more sessions (Synced gap packets tail) s is to same kept short fits =
    let h : MachineStandsFor c.machine packets × (tail ≡ c.kept) = rw is at s.at in
    record {
      new_sessions = sessions;
      new_place = Synced gap packets (tail ++ more);
      stands = record {
        reading = record {
          fits = more_bytes bytes more s.reading.fits fits;
          joined = ap (λ t. t ++ more) s.reading.joined ∙ simp append_assoc;
          each = s.reading.each;
          ends = (s.reading.ends.0, s.reading.ends.1, s.reading.ends.2, omega (arith, length-append tail more, ap length h.1));
        };
        at = rw (to, same) (h.0, ap (λ t. t ++ more) h.1 ∙ sym kept);
      };
      adds = (refl, more, refl);
      mode_changes = (λ e. absurd (let f : Mode.Synced ≡ Mode.SyncFound = sym is ∙ e in cc), λ e. absurd (let f : Mode.Synced ≡ Mode.SyncFound = sym to ∙ e in cc));
    }

-- the sync word is given
pub sync_given : (c n : CutterState) (bytes : List ℕ) (sessions : List EndedSession) (place : Place) → CutterStandsFor c bytes sessions place
    → c.mode ≡ Mode.SyncFound → n.mode ≡ Mode.Synced → n.machine ≡ c.machine → n.kept ≡ []
    → AfterRun c n (bytes ++ []) sessions place Sync
sync_given c n bytes sessions (Searching gap) s is to same none = absurd (let h : AtPlace c Mode.SyncFound (Searching gap) = rw is at s.at in h)
sync_given c n bytes sessions (Synced gap packets tail) s is to same none =
    let h : (packets ≡ []) × (tail ≡ []) × MachineStandsFor c.machine [] = rw is at s.at in
    record {
      new_sessions = sessions;
      new_place = Synced gap packets tail;
      stands = record {
        reading = rw append-nil s.reading;
        at = rw (to, same, h.0) (h.2, h.1 ∙ sym none);
      };
      adds = (h.0, h.1, refl, rw (h.0, h.1) refl);
      mode_changes = (is, λ e. absurd (let f : Mode.Synced ≡ Mode.SyncFound = sym to ∙ e in cc));
    }

-- bytes taken while searching, up to and including a sync word
pub skip_found : (c n : CutterState) (bytes rest : List ℕ) (run : Bor (List ℕ)) (count : ℕ) (sessions : List EndedSession) (place : Place)
    → CutterStandsFor c bytes sessions place → c.mode ≡ Mode.Searching → n.mode ≡ Mode.SyncFound → n.machine ≡ c.machine
    → ((gap : List ℕ) → MatcherStandsFor c.matcher gap → HasNoSync gap → IsSearchOutcome gap rest (Some count) n.matcher) → run.now ≡ take count rest → AreBytes (take count rest)
    → AfterRun c n (bytes ++ take count rest) sessions place (Skip run)
skip_found c n bytes rest run count sessions (Synced gap packets tail) s is to same after e fits = absurd (let h : AtPlace c Mode.Searching (Synced gap packets tail) = rw is at s.at in h)
skip_found c n bytes rest run count sessions (Searching gap) s is to same after e fits =
    let h : MatcherStandsFor c.matcher gap × MachineStandsFor c.machine [] = rw is at s.at in
    let a : IsSearchOutcome gap rest (Some count) n.matcher = after gap h.0 s.reading.ends in
    let taken : List ℕ = take count rest in
    let joined : bytes ++ take count rest ≡ flat_map session_bytes sessions ++ (a.0 ++ sync_bytes ++ [] ++ []) =
    ap (λ t. t ++ take count rest) s.reading.joined ∙ append_assoc (flat_map session_bytes sessions) gap (take count rest)
    ∙ ap (λ t. flat_map session_bytes sessions ++ t) (a.1 ∙ sym (append-nil (a.0 ++ sync_bytes)) ∙ sym (append-nil (a.0 ++ sync_bytes ++ []))) in
    record {
      new_sessions = sessions;
      new_place = Synced a.0 [] [];
      stands = record {
        reading = record { fits = more_bytes bytes (take count rest) s.reading.fits fits; joined = joined; each = s.reading.each; ends = (a.2, tt, refl, omega arith) };
        at = rw (to, same) (refl, refl, h.1);
      };
      adds = (refl, inr (a.0, ap (λ t. gap ++ t) e ∙ a.1, refl));
      mode_changes = to;
    }

-- bytes taken while searching, without a sync word
pub skip_all : (c n : CutterState) (bytes rest : List ℕ) (run : Bor (List ℕ)) (sessions : List EndedSession) (place : Place)
    → CutterStandsFor c bytes sessions place → c.mode ≡ Mode.Searching → n.mode ≡ Mode.Searching → n.machine ≡ c.machine
    → ((gap : List ℕ) → MatcherStandsFor c.matcher gap → HasNoSync gap → IsSearchOutcome gap rest None n.matcher) → run.now ≡ rest → AreBytes rest
    → AfterRun c n (bytes ++ rest) sessions place (Skip run)
skip_all c n bytes rest run sessions (Synced gap packets tail) s is to same after e fits = absurd (let h : AtPlace c Mode.Searching (Synced gap packets tail) = rw is at s.at in h)
skip_all c n bytes rest run sessions (Searching gap) s is to same after e fits =
    let h : MatcherStandsFor c.matcher gap × MachineStandsFor c.machine [] = rw is at s.at in
    let a : IsSearchOutcome gap rest None n.matcher = after gap h.0 s.reading.ends in
    record {
      new_sessions = sessions;
      new_place = Searching (gap ++ rest);
      stands = record {
        reading = record { fits = more_bytes bytes rest s.reading.fits fits; joined = ap (λ t. t ++ rest) s.reading.joined ∙ append_assoc (flat_map session_bytes sessions) gap rest; each = s.reading.each; ends = a.0 };
        at = rw (to, same) (a.1, h.1);
      };
      adds = (refl, inl (ap (λ t. Searching (gap ++ t)) (sym e)));
      mode_changes = tt;
    }

-- the bytes of packets with words more
pub packet_bytes_grown : (ps qs : List Packet) (more : List (ℕ × Step)) → flat_map stepped qs ≡ flat_map stepped ps ++ more → packet_bytes qs ≡ packet_bytes ps ++ flat_map bytes_of_word (map (λ (s : ℕ × Step). s.0) more)
packet_bytes_grown ps qs more e = ap (flat_map bytes_of_word) (words_grown ps qs more e) ∙ flat_map-append bytes_of_word (flat_map words ps) (map (λ (s : ℕ × Step). s.0) more)

not_sync_found : {m : Mode} (b : Bool) → m ≡ (if b then Mode.Searching else Mode.Synced) → m ≡ Mode.SyncFound → ⊥
not_sync_found true e f = absurd (cc)
not_sync_found false e f = absurd (cc)

-- a cutter after further words of a session, each with its step, and the session that these words make longer
abbrev WordsMore : CutterState → List ℕ → List EndedSession → List ℕ → List Packet → List (ℕ × Step) → Type 0
WordsMore n bytes sessions gap packets more = (new_sessions : List EndedSession) × (new : Place) × CutterStandsFor n bytes new_sessions new × LongerSession gap packets more sessions new_sessions new

pub joined_more : (r bytes gap tail new new_session session word : List ℕ) → bytes ≡ r ++ (gap ++ sync_bytes ++ session ++ tail) → new_session ≡ session ++ word → word ≡ tail ++ new → bytes ++ new ≡ r ++ (gap ++ sync_bytes ++ new_session)
joined_more r bytes gap tail new new_session session word e f g = rw (e, f, g) (simp append_assoc)

by_end : (n : CutterState) (bytes new : List ℕ) (sessions : List EndedSession) (gap tail : List ℕ) (packets : List Packet) (more : List (ℕ × Step)) (b : Bool)
    → session_ends_by more ≡ b → IsReading bytes sessions (Synced gap packets tail) → (g : HasTakenWords packets more n.machine) → AreBytes new
    → flat_map bytes_of_word (map (λ (s : ℕ × Step). s.0) more) ≡ tail ++ new → n.kept ≡ [] → n.mode ≡ (if b then Mode.Searching else Mode.Synced) → (b ≡ true → MatcherStandsFor n.matcher [])
    → WordsMore n (bytes ++ new) sessions gap packets more
by_end n bytes new sessions gap tail packets more true q r g fits word none to matcher =
    let joined : bytes ++ new ≡ flat_map session_bytes sessions ++ (gap ++ sync_bytes ++ packet_bytes g.packets) =
    joined_more (flat_map session_bytes sessions) bytes gap tail new _ _ _ r.joined (packet_bytes_grown packets g.packets more g.grown) word in
    let session : EndedSession = record { gap = gap; packets = g.packets } in
    let sessions_are : flat_map session_bytes (sessions ++ session ∷ []) ≡ flat_map session_bytes sessions ++ (gap ++ sync_bytes ++ packet_bytes g.packets) =
    flat_map-append session_bytes sessions (session ∷ []) ∙ ap (λ t. flat_map session_bytes sessions ++ t) (append-nil _) in (
      sessions ++ session ∷ [],
      Searching [],
      record {
        reading = record {
          fits = more_bytes bytes new r.fits fits;
          joined = joined ∙ sym sessions_are ∙ sym (append-nil (flat_map session_bytes (sessions ++ session ∷ [])));
          each = all_append IsEndedSession sessions (session ∷ []) r.each (record { first = r.ends.0; packets = g.each; ended = g.end ∙ q }, tt);
          ends = none_empty;
        };
        at = rw to (matcher refl, (let h : MachineStandsFor n.machine [] = rw q at g.stands in h));
      },
      record { all = g.packets; grown = g.grown; end = g.end; ends = λ e. (refl, refl); goes_on = λ e. absurd (let f : true ≡ false = sym (g.end ∙ q) ∙ e in cc) },
    )
by_end n bytes new sessions gap tail packets more false q r g fits word none to matcher =
    let joined : bytes ++ new ≡ flat_map session_bytes sessions ++ (gap ++ sync_bytes ++ packet_bytes g.packets) =
    joined_more (flat_map session_bytes sessions) bytes gap tail new _ _ _ r.joined (packet_bytes_grown packets g.packets more g.grown) word in (
      sessions,
      Synced gap g.packets [],
      record {
        reading = record {
          fits = more_bytes bytes new r.fits fits;
          joined = joined ∙ ap (λ t. flat_map session_bytes sessions ++ t) (sym (append-nil (gap ++ sync_bytes ++ packet_bytes g.packets)));
          each = r.each;
          ends = (r.ends.0, g.each, g.end ∙ q, omega arith);
        };
        at = rw to ((let h : MachineStandsFor n.machine g.packets = rw q at g.stands in h), sym none);
      },
      record { all = g.packets; grown = g.grown; end = g.end; ends = λ e. absurd (let f : false ≡ true = sym (g.end ∙ q) ∙ e in cc); goes_on = λ e. (refl, refl) },
    )

words_more : (c n : CutterState) (bytes new : List ℕ) (sessions : List EndedSession) (gap tail : List ℕ) (packets : List Packet) (more : List (ℕ × Step))
    → CutterStandsFor c bytes sessions (Synced gap packets tail) → c.mode ≡ Mode.Synced
    → ((ps : List Packet) → MachineStandsFor c.machine ps → HasTakenWords ps more n.machine) → AreBytes new
    → flat_map bytes_of_word (map (λ (s : ℕ × Step). s.0) more) ≡ c.kept ++ new → n.kept ≡ []
    → n.mode ≡ (if session_ends_by more then Mode.Searching else Mode.Synced) → (session_ends_by more ≡ true → MatcherStandsFor n.matcher [])
    → WordsMore n (bytes ++ new) sessions gap packets more
words_more c n bytes new sessions gap tail packets more s is grows fits word none to matcher =
    let h : MachineStandsFor c.machine packets × (tail ≡ c.kept) = rw is at s.at in
    by_end n bytes new sessions gap tail packets more (session_ends_by more) refl s.reading (grows packets h.0) fits (word ∙ ap (λ t. t ++ new) (sym h.1)) none to matcher

pub head_more : (c n : CutterState) (bytes new : List ℕ) (sessions : List EndedSession) (place : Place) (w : ℕ) (step : Step)
    → CutterStandsFor c bytes sessions place → c.mode ≡ Mode.Synced
    → ((ps : List Packet) → MachineStandsFor c.machine ps → HasTakenWords ps ((w, step) ∷ []) n.machine) → AreBytes new
    → bytes_of_word w ≡ c.kept ++ new → n.kept ≡ [] → n.mode ≡ (if session_ends_by ((w, step) ∷ []) then Mode.Searching else Mode.Synced) → (session_ends_by ((w, step) ∷ []) ≡ true → MatcherStandsFor n.matcher [])
    → AfterRun c n (bytes ++ new) sessions place (Head w step)
head_more c n bytes new sessions (Searching gap) w step s is grows fits word none to matcher = absurd (let h : AtPlace c Mode.Synced (Searching gap) = rw is at s.at in h)
head_more c n bytes new sessions (Synced gap packets tail) w step s is grows fits word none to matcher =
    let m = words_more c n bytes new sessions gap tail packets ((w, step) ∷ []) s is grows fits (append-nil (bytes_of_word w) ∙ word) none to matcher in
    record { new_sessions = m.0; new_place = m.1; stands = m.2; adds = m.3; mode_changes = (λ e. absurd (let f : Mode.Synced ≡ Mode.SyncFound = sym is ∙ e in cc), λ e. absurd (not_sync_found (session_ends_by ((w, step) ∷ [])) to e)) }

pub word_more : (c n : CutterState) (bytes new : List ℕ) (sessions : List EndedSession) (place : Place) (register w : ℕ)
    → CutterStandsFor c bytes sessions place → c.mode ≡ Mode.Synced
    → ((ps : List Packet) → MachineStandsFor c.machine ps → HasTakenWords ps ((w, Payload register w) ∷ []) n.machine) → AreBytes new
    → bytes_of_word w ≡ c.kept ++ new → n.kept ≡ [] → n.mode ≡ (if session_ends_by ((w, Payload register w) ∷ []) then Mode.Searching else Mode.Synced) → (session_ends_by ((w, Payload register w) ∷ []) ≡ true → MatcherStandsFor n.matcher [])
    → AfterRun c n (bytes ++ new) sessions place (Word register w)
word_more c n bytes new sessions (Searching gap) register w s is grows fits word none to matcher = absurd (let h : AtPlace c Mode.Synced (Searching gap) = rw is at s.at in h)
word_more c n bytes new sessions (Synced gap packets tail) register w s is grows fits word none to matcher =
    let m = words_more c n bytes new sessions gap tail packets ((w, Payload register w) ∷ []) s is grows fits (append-nil (bytes_of_word w) ∙ word) none to matcher in
    record { new_sessions = m.0; new_place = m.1; stands = m.2; adds = m.3; mode_changes = (λ e. absurd (let f : Mode.Synced ≡ Mode.SyncFound = sym is ∙ e in cc), λ e. absurd (not_sync_found (session_ends_by ((w, Payload register w) ∷ [])) to e)) }

pub body_more : (c n : CutterState) (bytes new : List ℕ) (sessions : List EndedSession) (place : Place) (register : ℕ) (run : Bor (List ℕ))
    → CutterStandsFor c bytes sessions place → c.mode ≡ Mode.Synced
    → ((ps : List Packet) → MachineStandsFor c.machine ps → HasTakenWords ps (run_steps (Body register run)) n.machine) → AreBytes new
    → flat_map bytes_of_word (map (λ (s : ℕ × Step). s.0) (run_steps (Body register run))) ≡ c.kept ++ new → n.kept ≡ [] → n.mode ≡ (if session_ends_by (run_steps (Body register run)) then Mode.Searching else Mode.Synced) → (session_ends_by (run_steps (Body register run)) ≡ true → MatcherStandsFor n.matcher [])
    → AfterRun c n (bytes ++ new) sessions place (Body register run)
body_more c n bytes new sessions (Searching gap) register run s is grows fits word none to matcher = absurd (let h : AtPlace c Mode.Synced (Searching gap) = rw is at s.at in h)
body_more c n bytes new sessions (Synced gap packets tail) register run s is grows fits word none to matcher =
    let m = words_more c n bytes new sessions gap tail packets (run_steps (Body register run)) s is grows fits word none to matcher in
    record { new_sessions = m.0; new_place = m.1; stands = m.2; adds = m.3; mode_changes = (λ e. absurd (let f : Mode.Synced ≡ Mode.SyncFound = sym is ∙ e in cc), λ e. absurd (not_sync_found (session_ends_by (run_steps (Body register run))) to e)) }

-- a call that skipped bytes, up to and including a sync word
pub cuts_found : (c n : CutterState) (rest : List ℕ) (run : Bor (List ℕ)) (count taken : ℕ)
    → c.mode ≡ Mode.Searching → n.mode ≡ Mode.SyncFound → n.machine ≡ c.machine → c.kept ≡ [] → n.kept ≡ [] → 0 < count → count ≤ length rest → taken ≡ count
    → ((gap : List ℕ) → MatcherStandsFor c.matcher gap → HasNoSync gap → IsSearchOutcome gap rest (Some count) n.matcher) → run.now ≡ take count rest → AreBytes (take count rest)
    → CutsRun c n rest taken (Skip run)
cuts_found c n rest run count taken is to same none none2 some most t after e fits =
    let long : length run.now ≡ count = ap length e ∙ length-take-le count rest most in
    rw t (record {
      nearer = rw (is, to) (omega arith);
      need = rw is (λ x. absurd x, λ x. absurd (omega arith));
      joined = ap (λ k. k ++ take count rest) none ∙ sym e ∙ sym (append-nil run.now) ∙ ap (λ k. run.now ++ k) (sym none2);
      run = omega (arith, long);
      lent = tt;
      skips = inl to;
      adds = λ bytes sessions place s. skip_found c n bytes rest run count sessions place s is to same after e fits;
    })

-- a call that skipped all bytes
pub cuts_all : (c n : CutterState) (rest : List ℕ) (run : Bor (List ℕ)) (taken : ℕ)
    → c.mode ≡ Mode.Searching → n.mode ≡ Mode.Searching → n.machine ≡ c.machine → c.kept ≡ [] → n.kept ≡ [] → 0 < length rest → taken ≡ length rest
    → ((gap : List ℕ) → MatcherStandsFor c.matcher gap → HasNoSync gap → IsSearchOutcome gap rest None n.matcher) → run.now ≡ rest → AreBytes rest
    → CutsRun c n rest taken (Skip run)
cuts_all c n rest run taken is to same none none2 some t after e fits =
    let long : length run.now ≡ length rest = ap length e in
    let all : take (length rest) rest ≡ rest = take_all (length rest) rest (omega arith) in
    rw t (record {
      nearer = rw (is, to) (omega arith);
      need = rw is (λ x. absurd x, λ x. absurd (omega arith));
      joined = ap (λ k. k ++ take (length rest) rest) none ∙ all ∙ sym e ∙ sym (append-nil run.now) ∙ ap (λ k. run.now ++ k) (sym none2);
      run = omega (arith, long);
      lent = tt;
      skips = inr long;
      adds = λ bytes sessions place s. rw all (skip_all c n bytes rest run sessions place s is to same after e fits);
    })

-- no byte is kept where the count is 0
pub none_kept : (kept : List ℕ) (count : ℕ) → count ≡ 0 → take count kept ≡ []
none_kept kept count e = ap (λ k. take k kept) e

-- the count is 0 where no byte is kept
pub no_count : (kept : List ℕ) (count : ℕ) → count ≤ length kept → take count kept ≡ [] → count ≡ 0
no_count kept count h e = sym (length-take-le count kept h) ∙ ap length e

-- a cutter that searches keeps no byte
pub keeps_none : (m : Mode) → m ≡ Mode.Searching → KeepsNone m
keeps_none m e = rw e tt

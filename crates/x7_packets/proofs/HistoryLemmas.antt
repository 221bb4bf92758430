-- Lemmas on specs/History: the accesses of words more.
use Rattle.std.proofs.Common.{◌≡◌, ℕ, ◌+◌, ◌*◌, ◌==◌, inl, inr, Bool, true, false, if◌then◌else◌, List, [], ◌∷◌, ◌++◌, length, refl, ap, sym, ◌∙◌, append_assoc, append-nil, arith, length-append}
use Rattle.std.proofs.lemmas.Grind.{flat_map-append}
use Rattle.std.proofs.lemmas.List.{length-map}
use Rattle.std.specs.List.{flat_map}
use Rattle.x7_words.proofs.WordLemmas.{length_bytes}
use Rattle.x7_packets.specs.SyncWord.{sync_bytes}
use Rattle.x7_packets.specs.declared.header.Step.{Step}
use Rattle.x7_packets.specs.declared.header.Step.TheVariants as step
use Rattle.x7_packets.specs.declared.cutter.Cut.{Cut}
use Rattle.x7_packets.specs.declared.cutter.Cut.TheVariants.{Need, Skip, Sync, Head, Word, Body}
use Rattle.x7_packets.specs.Packet.{Packet, words, stepped, payload_steps, ended}
use Rattle.x7_packets.specs.Reading.{Place, Searching, Synced, EndedSession, IsReading, session_bytes, place_bytes, packet_bytes, tail_of}
use Rattle.x7_packets.specs.Cutter.{CutAdds, CutterState, CutterStandsFor, GoesOnAt, LongerSession, AfterRun, run_steps}
use Rattle.x7_packets.specs.ByHand.{Reading, reading_of}
use Rattle.x7_packets.specs.History.{Read, Write, History, entry, entered, entered_all, entered_sessions, history, history_in, history_of, next_in, next_word}
use Rattle.x7_packets.proofs.ByHandLemmas.{reading_is}
use Rattle.x7_packets.proofs.PacketLemmas.{words_stepped}

-- the access of a step is entered before what there is
entered_prefix : (place : ℕ) (s : Step) (h : History) → entered place s h ≡ entered place s [] ++ h
entered_prefix place (step.Payload register w) h = refl
entered_prefix place (step.Read register n) h = elim (n == 0) as (λ b. (if b then h else entry (Read register n) place ∷ h) ≡ (if b then [] else entry (Read register n) place ∷ []) ++ h) [ true ↦ refl | false ↦ refl ]
entered_prefix place (step.Bad w) h = refl
entered_prefix place step.Filler h = refl
entered_prefix place step.Nop h = refl
entered_prefix place (step.Open register n) h = refl

-- the accesses of words are entered before what there is
pub all_before : (n : ℕ) (ss : List (ℕ × Step)) (h : History) → entered_all n ss h ≡ entered_all n ss [] ++ h
all_before n [] h = refl
all_before n (s ∷ ss) h =
    all_before (n + 4) ss (entered (n + 4) s.1 h)
    ∙ ap (λ (t : History). entered_all (n + 4) ss [] ++ t) (entered_prefix (n + 4) s.1 h)
    ∙ sym (append_assoc (entered_all (n + 4) ss []) (entered (n + 4) s.1 []) h)
    ∙ ap (λ (t : History). t ++ h) (sym (all_before (n + 4) ss (entered (n + 4) s.1 [])))

pub entered_all_append : (n : ℕ) (ss ts : List (ℕ × Step)) (h : History) → entered_all n (ss ++ ts) h ≡ entered_all (n + 4 * length ss) ts (entered_all n ss h)
entered_all_append n [] ts h = ap (λ (x : ℕ). entered_all x ts h) (omega arith)
entered_all_append n (s ∷ ss) ts h = entered_all_append (n + 4) ss ts (entered (n + 4) s.1 h) ∙ ap (λ (x : ℕ). entered_all x ts (entered_all (n + 4) ss (entered (n + 4) s.1 h))) (omega arith)

-- the accesses of later words stand before those of earlier words
pub words_after : (n : ℕ) (ss ts : List (ℕ × Step)) (h : History) → entered_all n (ss ++ ts) h ≡ entered_all (n + 4 * length ss) ts [] ++ (entered_all n ss [] ++ h)
words_after n ss ts h =
    entered_all_append n ss ts h
    ∙ all_before (n + 4 * length ss) ts (entered_all n ss h)
    ∙ ap (λ (t : History). entered_all (n + 4 * length ss) ts [] ++ t) (all_before n ss h)

sessions_more : (n : ℕ) (ss : List EndedSession) (s : EndedSession) (h : History) → entered_sessions n (ss ++ s ∷ []) h ≡ entered_all (n + length (flat_map session_bytes ss) + length s.gap + 4) (flat_map stepped s.packets) (entered_sessions n ss h)
sessions_more n [] s h = ap (λ (x : ℕ). entered_all x (flat_map stepped s.packets) h) (omega arith)
sessions_more n (q ∷ ss) s h =
    sessions_more (n + length (session_bytes q)) ss s (entered_all (n + length q.gap + 4) (flat_map stepped q.packets) h)
    ∙ ap (λ (x : ℕ). entered_all x (flat_map stepped s.packets) (entered_sessions (n + length (session_bytes q)) ss (entered_all (n + length q.gap + 4) (flat_map stepped q.packets) h))) (omega (arith, length-append (session_bytes q) (flat_map session_bytes ss)))

-- packets that grew enter the accesses of the words more
grown_enters : (n : ℕ) (packets all : List Packet) (more : List (ℕ × Step)) (h : History) → flat_map stepped all ≡ flat_map stepped packets ++ more
    → entered_all n (flat_map stepped all) h ≡ entered_all (n + 4 * length (flat_map stepped packets)) more (entered_all n (flat_map stepped packets) h)
grown_enters n packets all more h e = ap (λ t. entered_all n t h) e ∙ entered_all_append n (flat_map stepped packets) more h

-- a session that grew by words, the last of which ends it
pub grown_ends : (gap tail : List ℕ) (packets all : List Packet) (more : List (ℕ × Step)) (sessions : List EndedSession) → flat_map stepped all ≡ flat_map stepped packets ++ more
    → history (sessions ++ record { gap = gap; packets = all } ∷ []) (Searching []) ≡ entered_all (next_word sessions (Synced gap packets tail)) more (history sessions (Synced gap packets tail))
grown_ends gap tail packets all more sessions e =
    sessions_more 0 sessions (record { gap = gap; packets = all }) []
    ∙ ap (λ (x : ℕ). entered_all (x + length gap + 4) (flat_map stepped all) (entered_sessions 0 sessions [])) (omega arith)
    ∙ grown_enters (length (flat_map session_bytes sessions) + length gap + 4) packets all more (entered_sessions 0 sessions []) e

-- a session that grew by words and goes on
pub grown_goes_on : (gap tail : List ℕ) (packets all : List Packet) (more : List (ℕ × Step)) (sessions : List EndedSession) → flat_map stepped all ≡ flat_map stepped packets ++ more
    → history sessions (Synced gap all []) ≡ entered_all (next_word sessions (Synced gap packets tail)) more (history sessions (Synced gap packets tail))
grown_goes_on gap tail packets all more sessions e = grown_enters (length (flat_map session_bytes sessions) + length gap + 4) packets all more (entered_sessions 0 sessions []) e

-- words more in a session, by whether they end it
by_end : (gap tail : List ℕ) (packets : List Packet) (more : List (ℕ × Step)) (sessions new_sessions : List EndedSession) (new : Place) (l : LongerSession gap packets more sessions new_sessions new) (b : Bool) → ended l.all ≡ b
    → history new_sessions new ≡ entered_all (next_word sessions (Synced gap packets tail)) more (history sessions (Synced gap packets tail))
by_end gap tail packets more sessions new_sessions new l true e =
    let f : (new_sessions ≡ sessions ++ record { gap = gap; packets = l.all } ∷ []) × (new ≡ Searching []) = l.ends e in
    rw (f.0, f.1) (grown_ends gap tail packets l.all more sessions l.grown)
by_end gap tail packets more sessions new_sessions new l false e =
    let f : (new_sessions ≡ sessions) × (new ≡ Synced gap l.all []) = l.goes_on e in
    rw (f.0, f.1) (grown_goes_on gap tail packets l.all more sessions l.grown)

-- words more in a session enter their accesses
pub words_enter : (gap tail : List ℕ) (packets : List Packet) (more : List (ℕ × Step)) (sessions new_sessions : List EndedSession) (new : Place) → LongerSession gap packets more sessions new_sessions new
    → history new_sessions new ≡ entered_all (next_word sessions (Synced gap packets tail)) more (history sessions (Synced gap packets tail))
words_enter gap tail packets more sessions new_sessions new l = by_end gap tail packets more sessions new_sessions new l (ended l.all) refl

-- a run enters the accesses of its words
pub run_enters : (run : Cut) (sessions new_sessions : List EndedSession) (place new : Place) → CutAdds run sessions place new_sessions new → history new_sessions new ≡ entered_all (next_word sessions place) (run_steps run) (history sessions place)
run_enters Need sessions new_sessions (Searching gap) new a = rw (a.0, a.1) refl
run_enters Need sessions new_sessions (Synced gap packets tail) new a = rw (a.0, a.2) refl
run_enters (Skip bytes) sessions new_sessions (Searching gap) new a = elim a.1 [ inl e ↦ rw (a.0, e) refl | inr l ↦ rw (a.0, l.2) refl ]
run_enters (Skip bytes) sessions new_sessions (Synced gap packets tail) new a = absurd a
run_enters Sync sessions new_sessions (Searching gap) new a = absurd a
run_enters Sync sessions new_sessions (Synced gap packets tail) new a = rw (a.0, a.2, a.3) refl
run_enters (Head w s) sessions new_sessions (Searching gap) new a = absurd a
run_enters (Head w s) sessions new_sessions (Synced gap packets tail) new a = words_enter gap tail packets (run_steps (Head w s)) sessions new_sessions new a
run_enters (Word register w) sessions new_sessions (Searching gap) new a = absurd a
run_enters (Word register w) sessions new_sessions (Synced gap packets tail) new a = words_enter gap tail packets (run_steps (Word register w)) sessions new_sessions new a
run_enters (Body register bytes) sessions new_sessions (Searching gap) new a = absurd a
run_enters (Body register bytes) sessions new_sessions (Synced gap packets tail) new a = words_enter gap tail packets (run_steps (Body register bytes)) sessions new_sessions new a

length_of_packets : (packets : List Packet) → length (packet_bytes packets) ≡ 4 * length (flat_map stepped packets)
length_of_packets packets =
    length_bytes (flat_map words packets)
    ∙ ap (λ t. 4 * length t) (sym (words_stepped packets))
    ∙ ap (λ k. 4 * k) (length-map (flat_map stepped packets) (λ (s : ℕ × Step). s.0))

length_of_place : (sessions : List EndedSession) (place : Place) → next_word sessions place + length (tail_of place) ≡ length (flat_map session_bytes sessions) + length (place_bytes place)
length_of_place sessions (Searching gap) = omega arith
length_of_place sessions (Synced gap packets tail) =
    omega (arith, length_of_packets packets, length-append (gap ++ sync_bytes ++ packet_bytes packets) tail, length-append (gap ++ sync_bytes) (packet_bytes packets), length-append gap sync_bytes)

-- the next word begins where the bytes end without their tail
pub next_word_is : (bytes : List ℕ) (sessions : List EndedSession) (place : Place) → IsReading bytes sessions place → next_word sessions place + length (tail_of place) ≡ length bytes
next_word_is bytes sessions place r = length_of_place sessions place ∙ sym (ap length r.joined ∙ length-append (flat_map session_bytes sessions) (place_bytes place))

-- words more in a session bring the place of the next word on by four bytes each, by whether they end it
next_by_end : (gap tail : List ℕ) (packets : List Packet) (more : List (ℕ × Step)) (sessions new_sessions : List EndedSession) (new : Place) (l : LongerSession gap packets more sessions new_sessions new) (b : Bool) → ended l.all ≡ b
    → (next_word new_sessions new ≡ next_word sessions (Synced gap packets tail) + 4 * length more) × (tail_of new ≡ [])
next_by_end gap tail packets more sessions new_sessions new l true e =
    let f : (new_sessions ≡ sessions ++ record { gap = gap; packets = l.all } ∷ []) × (new ≡ Searching []) = l.ends e in
    let last : EndedSession = record { gap = gap; packets = l.all } in
    let joined : length (flat_map session_bytes (sessions ++ last ∷ [])) ≡ length (flat_map session_bytes sessions) + length (session_bytes last) =
    ap length (flat_map-append session_bytes sessions (last ∷ []) ∙ ap (λ t. flat_map session_bytes sessions ++ t) (append-nil (session_bytes last))) ∙ length-append (flat_map session_bytes sessions) (session_bytes last) in
    rw (f.0, f.1)
    (omega (arith, joined, length-append (gap ++ sync_bytes) (packet_bytes l.all), length-append gap sync_bytes, length_of_packets l.all, ap length l.grown, length-append (flat_map stepped packets) more), refl)
next_by_end gap tail packets more sessions new_sessions new l false e =
    let f : (new_sessions ≡ sessions) × (new ≡ Synced gap l.all []) = l.goes_on e in
    rw (f.0, f.1) (omega (arith, ap length l.grown, length-append (flat_map stepped packets) more), refl)

pub words_end : (gap tail : List ℕ) (packets : List Packet) (more : List (ℕ × Step)) (sessions new_sessions : List EndedSession) (new : Place) → LongerSession gap packets more sessions new_sessions new
    → (next_word new_sessions new ≡ next_word sessions (Synced gap packets tail) + 4 * length more) × (tail_of new ≡ [])
words_end gap tail packets more sessions new_sessions new l = next_by_end gap tail packets more sessions new_sessions new l (ended l.all) refl

-- a reading that goes on by words enters their accesses
pub words_on : (more : List (ℕ × Step)) (sessions : List EndedSession) (place : Place) (new : Reading) → GoesOnAt more sessions place new → history_in new ≡ entered_all (next_word sessions place) more (history sessions place)
words_on more sessions (Searching gap) new l = absurd l
words_on more sessions (Synced gap packets tail) new l = words_enter gap tail packets more sessions new.sessions new.place l

pub next_on : (more : List (ℕ × Step)) (sessions : List EndedSession) (place : Place) (new : Reading) → GoesOnAt more sessions place new → (next_in new ≡ next_word sessions place + 4 * length more) × (tail_of new.place ≡ [])
next_on more sessions (Searching gap) new l = absurd l
next_on more sessions (Synced gap packets tail) new l = words_end gap tail packets more sessions new.sessions new.place l

-- the history of bytes is that of their reading
pub history_is : (bytes : List ℕ) (sessions : List EndedSession) (place : Place) → IsReading bytes sessions place → history sessions place ≡ history_of bytes
history_is bytes sessions place r = let e = reading_is bytes sessions place r in ap (λ t. history t place) e.0 ∙ ap (history (reading_of bytes).sessions) e.1

-- a call of a cutter enters the accesses of its run after the bytes that it had taken
pub cut_enters : (old new : CutterState) (bytes more : List ℕ) (sessions : List EndedSession) (place : Place) (run : Cut) (n : ℕ) → CutterStandsFor old bytes sessions place → AfterRun old new (bytes ++ more) sessions place run
    → n + length (tail_of place) ≡ length bytes → history_of (bytes ++ more) ≡ entered_all n (run_steps run) (history_of bytes)
cut_enters old new bytes more sessions place run n s w e =
    let same : next_word sessions place ≡ n = omega (arith, next_word_is bytes sessions place s.reading, e) in
    sym (history_is (bytes ++ more) w.new_sessions w.new_place w.stands.reading)
    ∙ run_enters run sessions w.new_sessions place w.new_place w.adds
    ∙ ap (λ (k : ℕ). entered_all k (run_steps run) (history sessions place)) same
    ∙ ap (entered_all n (run_steps run)) (history_is bytes sessions place s.reading)

-- what each further write of a register keeps true, several writes of it keep true
pub kept_all : (P : History → Type 0) (register : ℕ) → ((h : History) (w place : ℕ) → P h → P (entry (Write register w) place ∷ h)) → (n : ℕ) (ws : List ℕ) (h : History) → P h → P (entered_all n (payload_steps register ws) h)
kept_all P register keeps n [] h p = p
kept_all P register keeps n (w ∷ ws) h p = kept_all P register keeps (n + 4) ws (entry (Write register w) (n + 4) ∷ h) (keeps h w (n + 4) p)

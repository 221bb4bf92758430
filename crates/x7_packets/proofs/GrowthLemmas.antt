-- Lemmas on specs/History: the history of bytes with further bytes.
use Rattle.std.proofs.Common.{◌≡◌, ℕ, ◌+◌, ◌-◌, ◌<◌, ◌≤◌, ◌==◌, ◌⊎◌, inl, inr, Bool, true, false, if◌then◌else◌, List, [], ◌∷◌, ◌++◌, length, Option, None, refl, ap, sym, subst, ◌∙◌, append_assoc, append-nil, arith, length-append}
use Rattle.std.proofs.lemmas.Bool.{lt-ltb, le-ltb}
use Rattle.std.proofs.lemmas.List.Sums.{fold-append}
use Rattle.std.specs.Prelude.{nat_lt}
use Rattle.std.specs.List.{flat_map}
use Rattle.x7_words.specs.Word.{AreBytes, word_of_bytes}
use Rattle.x7_words.proofs.ListLemmas.{all_prefix}
use Rattle.x7_packets.specs.declared.header.Step.{Step}
use Rattle.x7_packets.specs.declared.header.Step.TheVariants as step
use Rattle.x7_packets.specs.Packet.{Packet, count_of, ended, latest_after, meaning, register_named_by, stepped}
use Rattle.x7_packets.specs.Reading.{Place, Searching, Synced, EndedSession, IsReading}
use Rattle.x7_packets.specs.ByHand.{before_last_four, header_packet, is_sync, last_four, Reading, reading_of, with_byte, with_byte_at, with_payload_word, with_session_byte, packets_with_word, with_word_after}
use Rattle.x7_packets.specs.History.{Access, AllAfter, Bad, entered, entered_all, entered_sessions, entry, History, history, history_of, next_word, Placed, Read, until, Write}
use Rattle.x7_packets.proofs.ByHandLemmas.{reading_is_found}
use Rattle.x7_packets.proofs.HistoryLemmas.{grown_ends, grown_goes_on, next_word_is}
use Rattle.x7_packets.proofs.TakeLemmas.{stepped_more}

-- the new history is the old one, or has one access more, which ends at this place
abbrev pub OneMore : ℕ → History → History → Type 0
OneMore place old new = (new ≡ old) ⊎ ((access : Access) × (new ≡ entry access place ∷ old))

-- a step enters one access at most
step_enters : (place : ℕ) (s : Step) (h : History) → OneMore place h (entered place s h)
step_enters place (step.Payload register w) h = inr (Write register w, refl)
step_enters place (step.Read register n) h = elim (n == 0) as (λ b. OneMore place h (if b then h else entry (Read register n) place ∷ h)) [ true ↦ inl refl | false ↦ inr (Read register n, refl) ]
step_enters place (step.Bad w) h = inr (Bad w, refl)
step_enters place step.Filler h = inl refl
step_enters place step.Nop h = inl refl
step_enters place (step.Open register n) h = inl refl

-- a word enters one access at most, which ends four bytes on
word_enters : (m place : ℕ) (s : ℕ × Step) (old new : History) → new ≡ entered_all m (s ∷ []) old → m + 4 ≡ place → OneMore place old new
word_enters m place s old new e k = subst (λ (x : ℕ). OneMore x old new) k (subst (λ (t : History). OneMore (m + 4) old t) (sym e) (step_enters (m + 4) s.1 old))

-- the packets have just one word more
abbrev OneWordMore : List Packet → List Packet → Type 0
OneWordMore packets all = (s : ℕ × Step) × (flat_map stepped all ≡ flat_map stepped packets ++ s ∷ [])

-- a last packet and a word, by whether the word is its payload's
last_grows : (latest : Option ℕ) (p : Packet) (w : ℕ) (b : Bool) → OneWordMore (p ∷ []) (if b then with_payload_word p w ∷ [] else p ∷ header_packet latest w ∷ [])
last_grows latest p w true = ((w, step.Payload (register_named_by p.step) w), stepped_more [] p w)
last_grows latest p w false = ((w, meaning latest w), ap (λ t. t ++ (w, meaning latest w) ∷ []) (sym (append-nil (stepped p))))

packets_grow : (latest : Option ℕ) (packets : List Packet) (w : ℕ) → OneWordMore packets (with_word_after latest packets w)
packets_grow latest [] w = ((w, meaning latest w), refl)
packets_grow latest (p ∷ []) w = last_grows (latest_after latest p.step) p w (nat_lt (length p.payload) (count_of p.step))
packets_grow latest (p ∷ q ∷ ps) w =
    let r : OneWordMore (q ∷ ps) (with_word_after (latest_after latest p.step) (q ∷ ps) w) = packets_grow (latest_after latest p.step) (q ∷ ps) w in
    (r.0, ap (λ t. stepped p ++ t) r.1 ∙ sym (append_assoc (stepped p) (flat_map stepped (q ∷ ps)) (r.0 ∷ [])))

-- a session with one word more, by whether the word ends it
closed_enters : (sessions : List EndedSession) (gap tail : List ℕ) (packets all : List Packet) (place : ℕ) (b : Bool) → OneWordMore packets all → next_word sessions (Synced gap packets tail) + 4 ≡ place
    → (let r : Reading = if b then record { sessions = sessions ++ record { gap = gap; packets = all } ∷ []; place = Searching [] } else record { sessions = sessions; place = Synced gap all [] } in
    OneMore place (history sessions (Synced gap packets tail)) (history r.sessions r.place))
closed_enters sessions gap tail packets all place true g e = word_enters (next_word sessions (Synced gap packets tail)) place g.0 _ _ (grown_ends gap tail packets all (g.0 ∷ []) sessions g.1) e
closed_enters sessions gap tail packets all place false g e = word_enters (next_word sessions (Synced gap packets tail)) place g.0 _ _ (grown_goes_on gap tail packets all (g.0 ∷ []) sessions g.1) e

-- a session with one byte more
session_enters : (bytes : List ℕ) (sessions : List EndedSession) (gap tail : List ℕ) (packets : List Packet) (x : ℕ) → IsReading bytes sessions (Synced gap packets tail)
    → (let r : Reading = with_session_byte sessions gap packets tail x in OneMore (length bytes + 1) (history sessions (Synced gap packets tail)) (history r.sessions r.place))
session_enters bytes sessions gap [] packets x r = inl refl
session_enters bytes sessions gap (a ∷ []) packets x r = inl refl
session_enters bytes sessions gap (a ∷ b ∷ []) packets x r = inl refl
session_enters bytes sessions gap (a ∷ b ∷ c ∷ []) packets x r =
    let all : List Packet = packets_with_word packets (word_of_bytes (a ∷ b ∷ c ∷ x ∷ [])) in
    closed_enters sessions gap (a ∷ b ∷ c ∷ []) packets all (length bytes + 1) (ended all) (packets_grow None packets (word_of_bytes (a ∷ b ∷ c ∷ x ∷ [])))
    (omega (arith, next_word_is bytes sessions (Synced gap packets (a ∷ b ∷ c ∷ [])) r))
session_enters bytes sessions gap (a ∷ b ∷ c ∷ d ∷ tail) packets x r = inl refl

-- a gap enters nothing, whether it ends with the sync word or not
gap_enters : (sessions : List EndedSession) (prefix gap : List ℕ) (b : Bool) → history sessions (if b then Synced prefix [] [] else Searching gap) ≡ entered_sessions 0 sessions []
gap_enters sessions prefix gap true = refl
gap_enters sessions prefix gap false = refl

place_enters : (bytes : List ℕ) (sessions : List EndedSession) (place : Place) (x : ℕ) → IsReading bytes sessions place
    → (let r : Reading = with_byte_at sessions place x in OneMore (length bytes + 1) (history sessions place) (history r.sessions r.place))
place_enters bytes sessions (Searching gap) x r = inl (gap_enters sessions (before_last_four (gap ++ x ∷ [])) (gap ++ x ∷ []) (is_sync (last_four (gap ++ x ∷ []))))
place_enters bytes sessions (Synced gap packets tail) x r = session_enters bytes sessions gap tail packets x r

-- a byte more enters one access at most, which it ends
pub byte_enters : (bytes : List ℕ) (x : ℕ) → AreBytes (bytes ++ x ∷ []) → OneMore (length bytes + 1) (history_of bytes) (history_of (bytes ++ x ∷ []))
byte_enters bytes x f =
    let r : Reading = reading_of bytes in
    let is : IsReading bytes r.sessions r.place = reading_is_found bytes (all_prefix (λ b. b < 256) bytes (x ∷ []) f) in
    let more : reading_of (bytes ++ x ∷ []) ≡ with_byte r x = fold-append with_byte (record { sessions = []; place = Searching [] }) bytes (x ∷ []) in
    subst (λ (t : Reading). OneMore (length bytes + 1) (history_of bytes) (history t.sessions t.place)) (sym more) (place_enters bytes r.sessions r.place x is)

-- what each further byte keeps true, all further bytes keep true
bytes_keep : (P : List ℕ → Type 0) → ((bytes : List ℕ) (x : ℕ) → AreBytes (bytes ++ x ∷ []) → P bytes → P (bytes ++ x ∷ [])) → (bytes more : List ℕ) → AreBytes (bytes ++ more) → P bytes → P (bytes ++ more)
bytes_keep P keeps bytes [] f p = subst P (sym (append-nil bytes)) p
bytes_keep P keeps bytes (x ∷ more) f p =
    let all : (bytes ++ x ∷ []) ++ more ≡ bytes ++ x ∷ more = append_assoc bytes (x ∷ []) more in
    let fits : AreBytes ((bytes ++ x ∷ []) ++ more) = subst AreBytes (sym all) f in
    subst P all (bytes_keep P keeps (bytes ++ x ∷ []) more fits (keeps bytes x (all_prefix (λ b. b < 256) (bytes ++ x ∷ []) more fits) p))

-- the history of bytes is this one and newer accesses, all past the first n bytes
abbrev pub IsLater : ℕ → History → List ℕ → Type 0
IsLater n h bytes = (newer : History) × (history_of bytes ≡ newer ++ h) × AllAfter n (length bytes) newer

after_within : (n m k : ℕ) (h : History) → m ≤ k → AllAfter n m h → AllAfter n k h
after_within n m k [] l a = tt
after_within n m k (e ∷ h) l a = (a.0, omega (arith, a.1), after_within n m k h l a.2)

later_more : (n : ℕ) (h : History) (bytes : List ℕ) (x : ℕ) → AreBytes (bytes ++ x ∷ []) → (n ≤ length bytes) × IsLater n h bytes → (n ≤ length (bytes ++ x ∷ [])) × IsLater n h (bytes ++ x ∷ [])
later_more n h bytes x f p =
    let longer : length (bytes ++ x ∷ []) ≡ length bytes + 1 = length-append bytes (x ∷ []) in
    let after : AllAfter n (length (bytes ++ x ∷ [])) p.1.0 = after_within n (length bytes) (length (bytes ++ x ∷ [])) p.1.0 (omega arith) p.1.2 in
    let place : ℕ = length bytes + 1 in
    let later : IsLater n h (bytes ++ x ∷ []) = elim (byte_enters bytes x f) [
      | inl e ↦ (p.1.0, e ∙ p.1.1, after)
      | inr a ↦ (entry a.0 place ∷ p.1.0, a.1 ∙ ap (λ t. entry a.0 place ∷ t) p.1.1, (omega (arith, p.0), omega arith, after))
    ] in
    (omega (arith, p.0), later)

-- the history with further bytes is that of the first bytes, with newer accesses before it that end in the further ones
pub newer_of : (bytes more : List ℕ) → AreBytes (bytes ++ more) → IsLater (length bytes) (history_of bytes) (bytes ++ more)
newer_of bytes more f =
    let all : (length bytes ≤ length (bytes ++ more)) × IsLater (length bytes) (history_of bytes) (bytes ++ more) =
    bytes_keep (λ (b : List ℕ). (length bytes ≤ length b) × IsLater (length bytes) (history_of bytes) b) (later_more (length bytes) (history_of bytes)) bytes more f (omega arith, ([], refl, tt)) in
    all.1

pub placed_within : (n m : ℕ) (h : History) → n ≤ m → Placed n h → Placed m h
placed_within n m [] l p = tt
placed_within n m (e ∷ h) l p = (p.0, omega (arith, p.1), p.2)

placed_more : (bytes : List ℕ) (x : ℕ) → AreBytes (bytes ++ x ∷ []) → Placed (length bytes) (history_of bytes) → Placed (length (bytes ++ x ∷ [])) (history_of (bytes ++ x ∷ []))
placed_more bytes x f p =
    let longer : length (bytes ++ x ∷ []) ≡ length bytes + 1 = length-append bytes (x ∷ []) in
    elim (byte_enters bytes x f) [
      | inl e ↦ subst (Placed (length (bytes ++ x ∷ []))) (sym e) (placed_within (length bytes) (length (bytes ++ x ∷ [])) (history_of bytes) (omega arith) p)
      | inr a ↦ subst (Placed (length (bytes ++ x ∷ []))) (sym a.1) (omega arith, omega arith, placed_within (length bytes) (length bytes + 1 - 1) (history_of bytes) (omega arith) p)
    ]

-- the accesses of bytes end at falling places among them
pub placed_of : (bytes : List ℕ) → AreBytes bytes → Placed (length bytes) (history_of bytes)
placed_of bytes f = bytes_keep (λ (b : List ℕ). Placed (length b) (history_of b)) placed_more [] bytes f tt

until_after : (n m : ℕ) (newer h : History) → AllAfter n m newer → until n (newer ++ h) ≡ until n h
until_after n m [] h a = refl
until_after n m (e ∷ newer) h a = ap (λ (b : Bool). if b then until n (newer ++ h) else e ∷ (newer ++ h)) (lt-ltb n e.place a.0) ∙ until_after n m newer h a.2

pub until_placed : (n : ℕ) (h : History) → Placed n h → until n h ≡ h
until_placed n [] p = refl
until_placed n (e ∷ h) p = ap (λ (b : Bool). if b then until n h else e ∷ h) (le-ltb n e.place p.1)

-- the accesses of further bytes that end in the first ones are those of the first ones
pub prefix_of : (bytes more : List ℕ) → AreBytes (bytes ++ more) → until (length bytes) (history_of (bytes ++ more)) ≡ history_of bytes
prefix_of bytes more f =
    let n : IsLater (length bytes) (history_of bytes) (bytes ++ more) = newer_of bytes more f in
    ap (until (length bytes)) n.1
    ∙ until_after (length bytes) (length (bytes ++ more)) n.0 (history_of bytes) n.2
    ∙ until_placed (length bytes) (history_of bytes) (placed_of bytes (all_prefix (λ b. b < 256) bytes more f))

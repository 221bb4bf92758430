-- What was listed of bytes is a prefix of the listing of every longer list of bytes.
use Rattle.std.proofs.Common.{◌≡◌, ℕ, ◌+◌, ◌-◌, ◌<◌, ◌≤◌, Bool, true, false, if◌then◌else◌, List, [], ◌∷◌, ◌++◌, inl, inr, Option, None, length, take, drop, refl, ap, sym, subst, ◌∙◌, append_assoc, append-nil, arith, length-append, take-add, take-append-drop, codes, flat_map}
use Rattle.std.proofs.lemmas.List.{take-append-le, map-append}
use Rattle.std.proofs.lemmas.List.Sums.{fold-append}
use Rattle.std.proofs.Math.Seq.{take-append_seam}
use Rattle.std.specs.Prelude.{nat_lt}
use Rattle.x7_words.specs.Word.{AreBytes, word_of_bytes}
use Rattle.x7_words.proofs.ListLemmas.{all_back, all_prefix}
use Rattle.x7_packets.specs.ByHand.{before_last_four, header_packet, is_sync, last_four, Reading, reading_of, with_byte, with_byte_at, with_payload_word, with_session_byte, packets_with_word, with_word_after}
use Rattle.x7_packets.specs.Packet.{Packet, count_of, EachPacket, ended, latest_after, meaning, register_named_by, payload_steps, stepped}
use Rattle.x7_packets.specs.Reading.{Place, Searching, Synced, EndedSession, IsReading, IsEndedSession}
use Rattle.x7_packets.specs.declared.header.Step.{Step}
use Rattle.x7_packets.specs.declared.header.Step.TheVariants.{Payload}
use Rattle.x7_packets.specs.Mode.{Mode}
use Rattle.x7_packets.proofs.ByHandLemmas.{reading_is, reading_is_found}
use Rattle.x7_text.specs.Digits.{hex_byte}
use Rattle.x7_text.specs.Row.{close, in_line_after, open_bytes}
use Rattle.x7_text.proofs.LineLemmas.{bytes_closed, open_text_append}
use Rattle.x7_listing.specs.Line.{Sync, ended_texts}
use Rattle.x7_listing.specs.Listing.{gap_and_sync_lines, gap_lines, listing_of, packet_lines, packets_lines, place_lines, sessions_text}
use Rattle.x7_listing.specs.Lister.{GapListed, ListerStandsFor, ListerState, HasListedAt, in_line_after_words, open_words, written_of}
use Rattle.x7_listing.proofs.ListingLemmas.{gap_text, packets_text, place_after, session_more, texts_append}
use Rattle.x7_listing.proofs.SessionLemmas.{session_closed, open_words_append}

-- the second list begins with the first
abbrev pub IsPrefixOf : List ℕ → List ℕ → Type 0
IsPrefixOf xs ys = (more : List ℕ) × (ys ≡ xs ++ more)

prefix_self : (xs : List ℕ) → IsPrefixOf xs xs
prefix_self xs = ([], sym (append-nil xs))

prefix_then : (xs ys zs : List ℕ) → IsPrefixOf xs ys → IsPrefixOf ys zs → IsPrefixOf xs zs
prefix_then xs ys zs f g = (f.0 ++ g.0, g.1 ∙ ap (λ t. t ++ g.0) f.1 ∙ append_assoc xs f.0 g.0)

prefix_after : (start xs ys : List ℕ) → IsPrefixOf xs ys → IsPrefixOf (start ++ xs) (start ++ ys)
prefix_after start xs ys f = (f.0, ap (λ t. start ++ t) f.1 ∙ sym (append_assoc start xs f.0))

-- the text of the words of packets listed one by one; a last `data` line that isn't full stays open
abbrev W : List Packet → List ℕ
W packets = open_words 0 (flat_map stepped packets)

-- a session's text; a last `data` line that isn't full stays open
abbrev sure_session : List ℕ → List Packet → List ℕ
sure_session gap packets = ended_texts (gap_and_sync_lines gap) ++ W packets

-- the text that is sure at a place: a gap's last four bytes may yet be a sync word, and an open line may go on
abbrev pub sure_place : Place → List ℕ
sure_place (Searching gap) = open_bytes 0 (before_last_four gap)
sure_place (Synced gap packets tail) = sure_session gap packets

-- the text of a reading that is sure, whatever bytes follow
abbrev pub sure_of : Reading → List ℕ
sure_of r = sessions_text r.sessions ++ sure_place r.place

-- a gap of more bytes begins with the text of its first ones
gap_goes_on : (xs ys : List ℕ) → IsPrefixOf (open_bytes 0 xs) (open_bytes 0 (xs ++ ys))
gap_goes_on xs ys = (open_bytes (in_line_after 32 0 xs) ys, open_text_append 32 (codes "bytes ") hex_byte 0 xs ys)

gap_over : (xs : List ℕ) → IsPrefixOf (open_bytes 0 xs) (ended_texts (gap_lines xs))
gap_over xs = (close (in_line_after 32 0 xs), gap_text xs ∙ sym (bytes_closed xs))

-- the bytes before the last four, with a byte more after them
before_more : (gap : List ℕ) (byte : ℕ) → IsPrefixOf (before_last_four gap) (before_last_four (gap ++ byte ∷ []))
before_more gap byte =
    let all : List ℕ = gap ++ byte ∷ [] in
    let k : ℕ = length gap - 4 in
    let more : ℕ = (length all - 4) - k in
    let sum : length all - 4 ≡ k + more = omega (arith, length-append gap (byte ∷ [])) in
    let same : take k all ≡ take k gap = take-append-le k gap (byte ∷ []) (omega arith) in
    (take more (drop k all), ap (λ n. take n all) sum ∙ take-add k more all ∙ ap (λ t. t ++ take more (drop k all)) same)

gap_text_more : (gap : List ℕ) (byte : ℕ) → IsPrefixOf (open_bytes 0 (before_last_four gap)) (open_bytes 0 (before_last_four (gap ++ byte ∷ [])))
gap_text_more gap byte =
    let f : IsPrefixOf (before_last_four gap) (before_last_four (gap ++ byte ∷ [])) = before_more gap byte in
    subst (λ t. IsPrefixOf (open_bytes 0 (before_last_four gap)) (open_bytes 0 t)) (sym f.1) (gap_goes_on (before_last_four gap) f.0)

-- a gap with a byte more, by whether it ends with the sync word
searched_more : (gap : List ℕ) (byte : ℕ) (b : Bool) → IsPrefixOf (sure_place (Searching gap)) (sure_place (if b then Synced (before_last_four (gap ++ byte ∷ [])) [] [] else Searching (gap ++ byte ∷ [])))
searched_more gap byte true =
    let now : List ℕ = before_last_four (gap ++ byte ∷ []) in
    let lines : List ℕ = ended_texts (gap_lines now) in
    let sure : List ℕ = sure_session now [] in
    prefix_then (open_bytes 0 (before_last_four gap)) (open_bytes 0 now) sure (gap_text_more gap byte)
    (prefix_then (open_bytes 0 now) lines sure (gap_over now) (ended_texts (Sync ∷ []), append-nil (ended_texts (gap_and_sync_lines now)) ∙ texts_append (gap_lines now) (Sync ∷ [])))
searched_more gap byte false = gap_text_more gap byte

-- a word more is one word with its step more
abbrev SteppedMore : List Packet → List Packet → ℕ → Type 0
SteppedMore all ps w = (step : Step) × (flat_map stepped all ≡ flat_map stepped ps ++ (w, step) ∷ [])

last_stepped : (latest : Option ℕ) (p : Packet) (w : ℕ) (b : Bool) → SteppedMore (if b then with_payload_word p w ∷ [] else p ∷ header_packet (latest_after latest p.step) w ∷ []) (p ∷ []) w
last_stepped latest p w true =
    let step : Step = Payload (register_named_by p.step) w in
    let head : ℕ × Step = (p.head, p.step) in
    let old : List (ℕ × Step) = payload_steps (register_named_by p.step) p.payload in (
      step,
      append-nil (head ∷ payload_steps (register_named_by p.step) (p.payload ++ w ∷ []))
          ∙ ap (λ t. head ∷ t) (map-append (λ x. (x, Payload (register_named_by p.step) x)) p.payload (w ∷ []))
          ∙ sym (ap (λ t. t ++ (w, step) ∷ []) (append-nil (head ∷ old))),
    )
last_stepped latest p w false =
    let step : Step = meaning (latest_after latest p.step) w in
    (step, sym (ap (λ t. t ++ (w, step) ∷ []) (append-nil (stepped p))))

stepped_more : (latest : Option ℕ) (ps : List Packet) (w : ℕ) → SteppedMore (with_word_after latest ps w) ps w
stepped_more latest [] w = (meaning latest w, refl)
stepped_more latest (p ∷ []) w = last_stepped latest p w (nat_lt (length p.payload) (count_of p.step))
stepped_more latest (p ∷ q ∷ ps) w =
    let m : SteppedMore (with_word_after (latest_after latest p.step) (q ∷ ps) w) (q ∷ ps) w = stepped_more (latest_after latest p.step) (q ∷ ps) w in
    (m.0, ap (λ t. stepped p ++ t) m.1 ∙ sym (append_assoc (stepped p) (flat_map stepped (q ∷ ps)) ((w, m.0) ∷ [])))

-- the words listed of packets, with one word more
words_more : (packets : List Packet) (w : ℕ) → IsPrefixOf (W packets) (W (packets_with_word packets w))
words_more packets w =
    let ss : List (ℕ × Step) = flat_map stepped packets in
    let m : SteppedMore (packets_with_word packets w) packets w = stepped_more None packets w in
    (open_words (in_line_after_words 0 ss) ((w, m.0) ∷ []), ap (open_words 0) m.1 ∙ open_words_append 0 ss ((w, m.0) ∷ []))

-- the lines of packets begin with their words listed
words_over : (packets : List Packet) → EachPacket None packets → IsPrefixOf (W packets) (ended_texts (flat_map packet_lines packets))
words_over packets each = (close (in_line_after_words 0 (flat_map stepped packets)), sym (session_closed None 0 packets each))

-- a session's words listed are a prefix of its lines
pub session_over : (gap : List ℕ) (packets : List Packet) → EachPacket None packets → IsPrefixOf (sure_session gap packets) (ended_texts (packets_lines gap packets))
session_over gap packets each =
    let over = prefix_after (ended_texts (gap_and_sync_lines gap)) (W packets) (ended_texts (flat_map packet_lines packets)) (words_over packets each) in
    (over.0, packets_text gap packets ∙ over.1)

-- the text of a session whose packets' words go on
session_longer : (gap : List ℕ) (packets all : List Packet) → IsPrefixOf (W packets) (W all) → IsPrefixOf (sure_session gap packets) (sure_session gap all)
session_longer gap packets all f = prefix_after (ended_texts (gap_and_sync_lines gap)) (W packets) (W all) f

-- a session with a word more, by whether the word ends it
word_goes_on : (sessions : List EndedSession) (bytes gap : List ℕ) (packets all : List Packet) (b : Bool) → IsPrefixOf (W packets) (W all)
    → (let r : Reading = if b then record { sessions = sessions ++ record { gap = gap; packets = all } ∷ []; place = Searching [] } else record { sessions = sessions; place = Synced gap all [] } in
    IsReading bytes r.sessions r.place → IsPrefixOf (sessions_text sessions ++ sure_session gap packets) (sure_of r))
word_goes_on sessions bytes gap packets all true f is =
    let start : List ℕ = sessions_text sessions in
    let session : EndedSession = record { gap = gap; packets = all } in
    let last : IsEndedSession session = (all_back IsEndedSession sessions (session ∷ []) is.each).0 in
    let old : List ℕ = sure_session gap packets in
    let lines : List ℕ = ended_texts (packets_lines gap all) in
    let over : IsPrefixOf old lines = prefix_then old (sure_session gap all) lines (session_longer gap packets all f) (session_over gap all last.packets) in
    let next : List EndedSession = sessions ++ session ∷ [] in
    let same : start ++ lines ≡ sessions_text next ++ [] = sym (session_more sessions session) ∙ sym (append-nil (sessions_text next)) in
    subst (λ t. IsPrefixOf (start ++ old) t) same (prefix_after start old lines over)
word_goes_on sessions bytes gap packets all false f is =
    prefix_after (sessions_text sessions) (sure_session gap packets) (sure_session gap all) (session_longer gap packets all f)

-- a session with a byte more
session_goes_on : (sessions : List EndedSession) (bytes gap tail : List ℕ) (packets : List Packet) (byte : ℕ)
    → IsReading bytes (with_session_byte sessions gap packets tail byte).sessions (with_session_byte sessions gap packets tail byte).place
    → IsPrefixOf (sessions_text sessions ++ sure_session gap packets) (sure_of (with_session_byte sessions gap packets tail byte))
session_goes_on sessions bytes gap [] packets byte is = prefix_self (sessions_text sessions ++ sure_session gap packets)
session_goes_on sessions bytes gap (x ∷ []) packets byte is = prefix_self (sessions_text sessions ++ sure_session gap packets)
session_goes_on sessions bytes gap (x ∷ y ∷ []) packets byte is = prefix_self (sessions_text sessions ++ sure_session gap packets)
session_goes_on sessions bytes gap (x ∷ y ∷ z ∷ []) packets byte is =
    let w : ℕ = word_of_bytes (x ∷ y ∷ z ∷ byte ∷ []) in
    word_goes_on sessions bytes gap packets (packets_with_word packets w) (ended (packets_with_word packets w)) (words_more packets w) is
session_goes_on sessions bytes gap (x ∷ y ∷ z ∷ u ∷ tail) packets byte is = prefix_self (sessions_text sessions ++ sure_session gap packets)

-- ended sessions and a place with a byte more
byte_goes_on : (sessions : List EndedSession) (place : Place) (bytes : List ℕ) (byte : ℕ) → IsReading bytes (with_byte_at sessions place byte).sessions (with_byte_at sessions place byte).place
    → IsPrefixOf (sessions_text sessions ++ sure_place place) (sure_of (with_byte_at sessions place byte))
byte_goes_on sessions (Searching gap) bytes byte is =
    let b : Bool = is_sync (last_four (gap ++ byte ∷ [])) in
    prefix_after (sessions_text sessions) (sure_place (Searching gap)) (sure_place (if b then Synced (before_last_four (gap ++ byte ∷ [])) [] [] else Searching (gap ++ byte ∷ []))) (searched_more gap byte b)
byte_goes_on sessions (Synced gap packets tail) bytes byte is = session_goes_on sessions bytes gap tail packets byte is

-- the sure text of bytes
abbrev pub sure_text : List ℕ → List ℕ
sure_text bytes = sure_of (reading_of bytes)

-- the reading of bytes with a byte more
reading_more : (bytes : List ℕ) (byte : ℕ) → reading_of (bytes ++ byte ∷ []) ≡ with_byte (reading_of bytes) byte
reading_more bytes byte = fold-append with_byte (record { sessions = []; place = Searching [] }) bytes (byte ∷ [])

one_goes_on : (bytes : List ℕ) (byte : ℕ) → AreBytes (bytes ++ byte ∷ []) → IsPrefixOf (sure_text bytes) (sure_text (bytes ++ byte ∷ []))
one_goes_on bytes byte f =
    let r : Reading = reading_of bytes in
    let is : IsReading (bytes ++ byte ∷ []) (with_byte r byte).sessions (with_byte r byte).place =
    subst (λ (x : Reading). IsReading (bytes ++ byte ∷ []) x.sessions x.place) (reading_more bytes byte) (reading_is_found (bytes ++ byte ∷ []) f) in
    subst (λ (x : Reading). IsPrefixOf (sure_of r) (sure_of x)) (sym (reading_more bytes byte)) (byte_goes_on r.sessions r.place (bytes ++ byte ∷ []) byte is)

-- the sure text of bytes is a prefix of that of those bytes with any further ones
pub sure_goes_on : (bytes rest : List ℕ) → AreBytes (bytes ++ rest) → IsPrefixOf (sure_text bytes) (sure_text (bytes ++ rest))
sure_goes_on bytes [] f = subst (λ t. IsPrefixOf (sure_text bytes) (sure_text t)) (sym (append-nil bytes)) (prefix_self (sure_text bytes))
sure_goes_on bytes (byte ∷ rest) f =
    let all : bytes ++ byte ∷ rest ≡ (bytes ++ byte ∷ []) ++ rest = sym (append_assoc bytes (byte ∷ []) rest) in
    let fits : AreBytes ((bytes ++ byte ∷ []) ++ rest) = subst AreBytes all f in
    let one : IsPrefixOf (sure_text bytes) (sure_text (bytes ++ byte ∷ [])) = one_goes_on bytes byte (all_prefix (λ x. x < 256) (bytes ++ byte ∷ []) rest fits) in
    let more : IsPrefixOf (sure_text (bytes ++ byte ∷ [])) (sure_text ((bytes ++ byte ∷ []) ++ rest)) = sure_goes_on (bytes ++ byte ∷ []) rest fits in
    subst (λ t. IsPrefixOf (sure_text bytes) (sure_text t)) (sym all)
    (prefix_then (sure_text bytes) (sure_text (bytes ++ byte ∷ [])) (sure_text ((bytes ++ byte ∷ []) ++ rest)) one more)

-- the sure text at a place is a prefix of the place's lines
place_over : (bytes : List ℕ) (sessions : List EndedSession) (place : Place) → IsReading bytes sessions place → IsPrefixOf (sure_place place) (ended_texts (place_lines place))
place_over bytes sessions (Searching gap) is =
    let k : ℕ = length gap - 4 in
    let grown : IsPrefixOf (open_bytes 0 (take k gap)) (open_bytes 0 gap) = subst (λ t. IsPrefixOf (open_bytes 0 (take k gap)) (open_bytes 0 t)) (take-append-drop k gap) (gap_goes_on (take k gap) (drop k gap)) in
    prefix_then (open_bytes 0 (take k gap)) (open_bytes 0 gap) (ended_texts (gap_lines gap)) grown (gap_over gap)
place_over bytes sessions (Synced gap packets tail) is =
    prefix_then (sure_session gap packets) (ended_texts (packets_lines gap packets)) (ended_texts (place_lines (Synced gap packets tail))) (session_over gap packets is.ends.1)
    (ended_texts (gap_lines tail), texts_append (packets_lines gap packets) (gap_lines tail))

-- the sure text of bytes is a prefix of their listing
pub sure_over : (bytes : List ℕ) → AreBytes bytes → IsPrefixOf (sure_text bytes) (listing_of bytes)
sure_over bytes f =
    let r : Reading = reading_of bytes in
    let over = prefix_after (sessions_text r.sessions) (sure_place r.place) (ended_texts (place_lines r.place)) (place_over bytes r.sessions r.place (reading_is_found bytes f)) in
    (over.0, place_after r.sessions r.place ∙ over.1)

-- the bytes of a gap that are listed are those before the last four
listed_before : (prefix held gap : List ℕ) → gap ≡ prefix ++ held → length held ≡ 4 → before_last_four gap ≡ prefix
listed_before prefix held gap e four =
    let n : length gap - 4 ≡ length prefix = omega (arith, ap length e, length-append prefix held) in
    ap (λ k. take k gap) n ∙ ap (λ t. take (length prefix) t) e ∙ take-append_seam prefix held

none_before : (gap : List ℕ) → length gap ≤ 4 → before_last_four gap ≡ []
none_before gap few = let n : length gap - 4 ≡ 0 = omega arith in ap (λ k. take k gap) n

gap_sure : (all start : List ℕ) (line : ℕ) (held gap : List ℕ) → GapListed all start line held gap → all ≡ start ++ open_bytes 0 (before_last_four gap)
gap_sure all start line held gap g =
    let same : before_last_four gap ≡ g.prefix = elim g.full [
      | inl four ↦ listed_before g.prefix held gap g.split four
      | inr none ↦
          let is : gap ≡ held = g.split ∙ ap (λ t. t ++ held) none in
          let few : length gap ≤ 4 = omega (arith, ap length is, g.few) in
          none_before gap few ∙ sym none
    ] in
    g.listed ∙ ap (λ t. start ++ open_bytes 0 t) (sym same)

-- what is listed at a place is the sure text there
pub place_sure : (synced : Bool) (line : ℕ) (held all start : List ℕ) (place : Place) (m : Mode) → (m ≡ Mode.SyncFound → ⊥) → HasListedAt (written_of synced line held all) start place m → all ≡ start ++ sure_place place
place_sure false line held all start (Searching gap) m d t = gap_sure all start line held gap t
place_sure false line held all start (Synced gap packets tail) m d t = absurd (d t.0)
place_sure true line held all start (Searching gap) m d t = t.2 ∙ sym (append-nil start) ∙ ap (λ x. start ++ open_bytes 0 (before_last_four x)) (sym t.0)
place_sure true line held all start (Synced gap packets tail) m d t =
    let ws : List ℕ = W packets in
    t.1.listed ∙ append_assoc start (ended_texts (gap_and_sync_lines gap)) ws

-- what a lister has listed of bytes is their sure text
pub listed_sure : (l : ListerState) (given bytes : List ℕ) → ListerStandsFor l given [] bytes → given ++ l.text ≡ sure_text bytes
listed_sure l given bytes s =
    let t = s.has_listed in
    let e : (t.sessions ≡ (reading_of bytes).sessions) × (t.at ≡ (reading_of bytes).place) = reading_is bytes t.sessions t.at t.cut.reading in
    place_sure l.is_synced l.in_line l.held (given ++ l.text) (sessions_text t.sessions) t.at l.cutter.mode s.ready t.listed
    ∙ ap (λ x. sessions_text x ++ sure_place t.at) e.0 ∙ ap (λ x. sessions_text (reading_of bytes).sessions ++ sure_place x) e.1

-- what a lister has listed of bytes is a prefix of the listing of those bytes with any further ones
pub listed_prefix : (l : ListerState) (given bytes rest : List ℕ) → ListerStandsFor l given [] bytes → AreBytes (bytes ++ rest) → (more : List ℕ) × (listing_of (bytes ++ rest) ≡ (given ++ l.text) ++ more)
listed_prefix l given bytes rest s f =
    let sure : List ℕ = sure_text bytes in
    let all : IsPrefixOf sure (listing_of (bytes ++ rest)) = prefix_then sure (sure_text (bytes ++ rest)) (listing_of (bytes ++ rest)) (sure_goes_on bytes rest f) (sure_over (bytes ++ rest) f) in
    subst (λ t. IsPrefixOf t (listing_of (bytes ++ rest))) (sym (listed_sure l given bytes s)) all

-- what a lister has listed after other listings is the sure text of its bytes
pub listed_after : (l : ListerState) (given before bytes : List ℕ) (s : ListerStandsFor l given before bytes) → given ++ l.text ≡ (before ++ sessions_text s.has_listed.sessions) ++ sure_place s.has_listed.at
listed_after l given before bytes s = place_sure l.is_synced l.in_line l.held (given ++ l.text) (before ++ sessions_text s.has_listed.sessions) s.has_listed.at l.cutter.mode s.ready s.has_listed.listed

pub sure_after : (l : ListerState) (given before bytes : List ℕ) → ListerStandsFor l given before bytes → given ++ l.text ≡ before ++ sure_text bytes
sure_after l given before bytes s =
    let t = s.has_listed in
    let e : (t.sessions ≡ (reading_of bytes).sessions) × (t.at ≡ (reading_of bytes).place) = reading_is bytes t.sessions t.at t.cut.reading in
    listed_after l given before bytes s ∙ append_assoc before (sessions_text t.sessions) (sure_place t.at)
    ∙ ap (λ x. before ++ (sessions_text x ++ sure_place t.at)) e.0 ∙ ap (λ x. before ++ (sessions_text (reading_of bytes).sessions ++ sure_place x)) e.1

-- the listings before and what is listed of bytes are a prefix of those and the listing of the bytes with any further
-- ones
pub prefix_after_others : (l : ListerState) (given before bytes rest : List ℕ) → ListerStandsFor l given before bytes → AreBytes (bytes ++ rest) → (more : List ℕ) × (before ++ listing_of (bytes ++ rest) ≡ (given ++ l.text) ++ more)
prefix_after_others l given before bytes rest s f =
    let sure : List ℕ = sure_text bytes in
    let all : IsPrefixOf sure (listing_of (bytes ++ rest)) = prefix_then sure (sure_text (bytes ++ rest)) (listing_of (bytes ++ rest)) (sure_goes_on bytes rest f) (sure_over (bytes ++ rest) f) in
    (all.0, ap (λ t. before ++ t) all.1 ∙ sym (append_assoc before sure all.0) ∙ ap (λ t. t ++ all.0) (sym (sure_after l given before bytes s)))

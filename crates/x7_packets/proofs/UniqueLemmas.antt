-- A list of bytes has at most one reading.
use Rattle.std.proofs.Common.{◌≡◌, ℕ, ◌<◌, true, false, List, [], ◌∷◌, ◌++◌, ◌⊎◌, inl, inr, length, None, ◌/◌, ◌%◌, ◌^◌, refl, ap, sym, ◌∙◌, append_assoc, append-nil, arith, length-append}
use Rattle.std.specs.List.{flat_map, AllByRecursion}
use Rattle.std.proofs.lemmas.List.{append_cancel_right}
use Rattle.x7_words.specs.Word.{AreWords, bytes_of_word}
use Rattle.x7_words.proofs.ListLemmas.{IsFront, prefixes_of, all_append, cons_prefix}
use Rattle.x7_packets.specs.SyncWord.{sync_bytes, IsBeforeSync}
use Rattle.x7_packets.specs.Packet.{Packet, EachPacket, words, ended, latest_after}
use Rattle.x7_packets.specs.Reading.{Place, Searching, Synced, EndedSession, IsReading, IsEndedSession, IsPlace, session_bytes, place_bytes, packet_bytes}
use Rattle.x7_packets.proofs.PacketLemmas.{one_list}
use Rattle.x7_packets.proofs.EndLemmas.{after_end}
use Rattle.std.proofs.Common.{Option}

record Same (g h cs ds : List ℕ) : Type 0 where
  gap : g ≡ h
  rest : cs ≡ ds

same_longer : (g h cs ds : List ℕ) → IsBeforeSync h → IsFront (g ++ sync_bytes) (h ++ sync_bytes) cs ds → Same g h cs ds
same_longer g h cs ds f l =
    let none : l.more ≡ [] = f.first g l.more l.prefix in
    record {
      gap = sym (append_cancel_right h g sync_bytes (l.prefix ∙ ap (λ t. g ++ sync_bytes ++ t) none ∙ append-nil (g ++ sync_bytes)));
      rest = l.back ∙ ap (λ t. t ++ ds) none;
    }

-- the gap before the first sync word is one
one_gap : (g h cs ds : List ℕ) → IsBeforeSync g → IsBeforeSync h → g ++ sync_bytes ++ cs ≡ h ++ sync_bytes ++ ds → Same g h cs ds
one_gap g h cs ds f k e = elim (prefixes_of (g ++ sync_bytes) (h ++ sync_bytes) cs ds e) [
  | inl l ↦ same_longer g h cs ds k l
  | inr l ↦ let s : Same h g ds cs = same_longer h g ds cs f l in record { gap = sym s.gap; rest = sym s.rest }
]

bytes_of_word_injective : (w v : ℕ) → w < 2 ^ 32 → v < 2 ^ 32 → bytes_of_word w ≡ bytes_of_word v → w ≡ v
bytes_of_word_injective w v f g e =
    let a : w / 2 ^ 24 % 256 ≡ v / 2 ^ 24 % 256 = cc in
    let b : w / 2 ^ 16 % 256 ≡ v / 2 ^ 16 % 256 = cc in
    let c : w / 2 ^ 8 % 256 ≡ v / 2 ^ 8 % 256 = cc in
    let d : w % 256 ≡ v % 256 = cc in
    omega arith

-- the words ws begin the words vs, and the bytes go on in the same way
record WordsFront (ws vs cs ds : List ℕ) : Type 0 where
  more : List ℕ
  prefix : vs ≡ ws ++ more
  back : cs ≡ flat_map bytes_of_word more ++ ds

words_prefixes : (ws vs cs ds : List ℕ) → AreWords ws → AreWords vs → flat_map bytes_of_word ws ++ cs ≡ flat_map bytes_of_word vs ++ ds → WordsFront ws vs cs ds ⊎ WordsFront vs ws ds cs
words_prefixes [] vs cs ds f g e = inl (record { more = vs; prefix = refl; back = e })
words_prefixes (w ∷ ws) [] cs ds f g e = inr (record { more = w ∷ ws; prefix = refl; back = sym e })
words_prefixes (w ∷ ws) (v ∷ vs) cs ds f g e =
    let same : bytes_of_word w ≡ bytes_of_word v = cc in
    let head : w ≡ v = bytes_of_word_injective w v f.0 g.0 same in
    let tail : flat_map bytes_of_word ws ++ cs ≡ flat_map bytes_of_word vs ++ ds = cc in
    elim (words_prefixes ws vs cs ds f.1 g.1 tail) [
      | inl l ↦ inl (record { more = l.more; prefix = cons_prefix w v ws vs l.more head l.prefix; back = l.back })
      | inr l ↦ inr (record { more = l.more; prefix = cons_prefix v w vs ws l.more (sym head) l.prefix; back = l.back })
    ]

-- the words of packets are words
pub each_fits : (l : Option ℕ) (ps : List Packet) → EachPacket l ps → AreWords (flat_map words ps)
each_fits l [] a = tt
each_fits l (p ∷ []) a = all_append (λ w. w < 2 ^ 32) (words p) [] a.fits tt
each_fits l (p ∷ q ∷ ps) a = all_append (λ w. w < 2 ^ 32) (words p) (flat_map words (q ∷ ps)) a.0.fits (each_fits (latest_after l p.step) (q ∷ ps) a.2)

record SamePackets (ps qs : List Packet) (cs ds : List ℕ) : Type 0 where
  packets : ps ≡ qs
  rest : cs ≡ ds

-- after the words of packets that ended a session no words go on, so packets that begin with these words are the same
no_more : (ps qs : List Packet) (cs ds : List ℕ) → EachPacket None ps → ended ps ≡ true → EachPacket None qs → WordsFront (flat_map words ps) (flat_map words qs) cs ds → SamePackets ps qs cs ds
no_more ps qs cs ds a d b l =
    let none : l.more ≡ [] = after_end None ps qs l.more a d b (sym l.prefix) in
    record {
      packets = one_list None ps qs a b (sym (l.prefix ∙ ap (λ t. flat_map words ps ++ t) none ∙ append-nil (flat_map words ps)));
      rest = l.back ∙ ap (λ t. flat_map bytes_of_word t ++ ds) none;
    }

both_ended : (ps qs : List Packet) (cs ds : List ℕ) → EachPacket None ps → ended ps ≡ true → EachPacket None qs → ended qs ≡ true → packet_bytes ps ++ cs ≡ packet_bytes qs ++ ds → SamePackets ps qs cs ds
both_ended ps qs cs ds a d b k e = elim (words_prefixes (flat_map words ps) (flat_map words qs) cs ds (each_fits None ps a) (each_fits None qs b) e) [
  | inl l ↦ no_more ps qs cs ds a d b l
  | inr l ↦ let s : SamePackets qs ps ds cs = no_more qs ps ds cs b k a l in record { packets = sym s.packets; rest = sym s.rest }
]

-- a rest of fewer than four bytes has no word
few : (more cs ds : List ℕ) → cs ≡ flat_map bytes_of_word more ++ ds → length cs < 4 → more ≡ []
few [] cs ds e h = refl
few (w ∷ more) cs ds e h = absurd (omega (arith, ap length e, length-append (flat_map bytes_of_word (w ∷ more)) ds, length-append (bytes_of_word w) (flat_map bytes_of_word more)))

open_more : (ps qs : List Packet) (cs ds : List ℕ) → EachPacket None ps → EachPacket None qs → length cs < 4 → WordsFront (flat_map words ps) (flat_map words qs) cs ds → SamePackets ps qs cs ds
open_more ps qs cs ds a b h l =
    let none : l.more ≡ [] = few l.more cs ds l.back h in
    record {
      packets = one_list None ps qs a b (sym (l.prefix ∙ ap (λ t. flat_map words ps ++ t) none ∙ append-nil (flat_map words ps)));
      rest = l.back ∙ ap (λ t. flat_map bytes_of_word t ++ ds) none;
    }

both_open : (ps qs : List Packet) (cs ds : List ℕ) → EachPacket None ps → length cs < 4 → EachPacket None qs → length ds < 4 → packet_bytes ps ++ cs ≡ packet_bytes qs ++ ds → SamePackets ps qs cs ds
both_open ps qs cs ds a h b k e = elim (words_prefixes (flat_map words ps) (flat_map words qs) cs ds (each_fits None ps a) (each_fits None qs b) e) [
  | inl l ↦ open_more ps qs cs ds a b h l
  | inr l ↦ let s : SamePackets qs ps ds cs = open_more qs ps ds cs b a k l in record { packets = sym s.packets; rest = sym s.rest }
]

ended_open : (ps qs : List Packet) (cs ds : List ℕ) → EachPacket None ps → ended ps ≡ true → EachPacket None qs → ended qs ≡ false → length ds < 4 → packet_bytes ps ++ cs ≡ packet_bytes qs ++ ds → ⊥
ended_open ps qs cs ds a d b k h e = elim (words_prefixes (flat_map words ps) (flat_map words qs) cs ds (each_fits None ps a) (each_fits None qs b) e) [
  | inl l ↦ (let s : SamePackets ps qs cs ds = no_more ps qs cs ds a d b l in let t : ended ps ≡ ended qs = ap ended s.packets in cc)
  | inr l ↦ (let s : SamePackets qs ps ds cs = open_more qs ps ds cs b a h l in let t : ended qs ≡ ended ps = ap ended s.packets in cc)
]

record One (ss ts : List EndedSession) (p q : Place) : Type 0 where
  sessions : ss ≡ ts
  place : p ≡ q

regroup : (g s t : List ℕ) → g ++ sync_bytes ++ s ++ t ≡ g ++ sync_bytes ++ (s ++ t)
regroup g s t = append_assoc (g ++ sync_bytes) s t

one_place : (p q : Place) → IsPlace p → IsPlace q → place_bytes p ≡ place_bytes q → p ≡ q
one_place (Searching g) (Searching h) a b e = ap (λ t. Searching t) e
one_place (Searching g) (Synced h ps t) a b e = absurd (a.none h (packet_bytes ps ++ t) (e ∙ regroup h (packet_bytes ps) t))
one_place (Synced h ps t) (Searching g) a b e = absurd (b.none h (packet_bytes ps ++ t) (sym e ∙ regroup h (packet_bytes ps) t))
one_place (Synced g ps t) (Synced h qs u) a b e =
    let s : Same g h (packet_bytes ps ++ t) (packet_bytes qs ++ u) = one_gap g h _ _ a.0 b.0 (sym (regroup g (packet_bytes ps) t) ∙ e ∙ regroup h (packet_bytes qs) u) in
    let r : SamePackets ps qs t u = both_open ps qs t u a.1 a.3 b.1 b.3 s.rest in
    ap (λ x. Synced x ps t) s.gap ∙ ap (λ x. Synced h x t) r.packets ∙ ap (λ x. Synced h qs x) r.rest

-- no place has the bytes of a session that ended
no_session : (p : Place) (s : EndedSession) (rest : List ℕ) → IsPlace p → IsEndedSession s → place_bytes p ≡ session_bytes s ++ rest → ⊥
no_session (Searching g) s rest a b e = a.none s.gap (packet_bytes s.packets ++ rest) (e ∙ regroup s.gap (packet_bytes s.packets) rest)
no_session (Synced g ps t) s rest a b e =
    let m : Same g s.gap (packet_bytes ps ++ t) (packet_bytes s.packets ++ rest) = one_gap g s.gap _ _ a.0 b.first (sym (regroup g (packet_bytes ps) t) ∙ e ∙ regroup s.gap (packet_bytes s.packets) rest) in
    ended_open s.packets ps rest t b.packets b.ended a.1 a.2 a.3 (sym m.rest)

one_session : (r s : EndedSession) (cs ds : List ℕ) → IsEndedSession r → IsEndedSession s → session_bytes r ++ cs ≡ session_bytes s ++ ds → (r ≡ s) × (cs ≡ ds)
one_session r s cs ds a b e =
    let m : Same r.gap s.gap (packet_bytes r.packets ++ cs) (packet_bytes s.packets ++ ds) = one_gap r.gap s.gap _ _ a.first b.first (sym (regroup r.gap (packet_bytes r.packets) cs) ∙ e ∙ regroup s.gap (packet_bytes s.packets) ds) in
    let n : SamePackets r.packets s.packets cs ds = both_ended r.packets s.packets cs ds a.packets a.ended b.packets b.ended m.rest in
    (ap (λ (x : List ℕ). record { gap = x; packets = r.packets }) m.gap ∙ ap (λ (x : List Packet). record { gap = s.gap; packets = x }) n.packets, n.rest)

one_of : (ss ts : List EndedSession) (p q : Place) → AllByRecursion IsEndedSession ss → IsPlace p → AllByRecursion IsEndedSession ts → IsPlace q
    → flat_map session_bytes ss ++ place_bytes p ≡ flat_map session_bytes ts ++ place_bytes q → One ss ts p q
one_of [] [] p q a b c d e = record { sessions = refl; place = one_place p q b d e }
one_of [] (t ∷ ts) p q a b c d e = absurd (no_session p t _ b c.0 (e ∙ append_assoc (session_bytes t) (flat_map session_bytes ts) (place_bytes q)))
one_of (s ∷ ss) [] p q a b c d e = absurd (no_session q s _ d a.0 (sym e ∙ append_assoc (session_bytes s) (flat_map session_bytes ss) (place_bytes p)))
one_of (s ∷ ss) (t ∷ ts) p q a b c d e =
    let m : (s ≡ t) × (flat_map session_bytes ss ++ place_bytes p ≡ flat_map session_bytes ts ++ place_bytes q) = one_session s t _ _ a.0 c.0
    (sym (append_assoc (session_bytes s) (flat_map session_bytes ss) (place_bytes p)) ∙ e
    ∙ append_assoc (session_bytes t) (flat_map session_bytes ts) (place_bytes q)) in
    let n : One ss ts p q = one_of ss ts p q a.1 b c.1 d m.1 in
    record { sessions = ap (λ x. x ∷ ss) m.0 ∙ ap (λ xs. t ∷ xs) n.sessions; place = n.place }

pub one_reading : (bytes : List ℕ) (ss ts : List EndedSession) (p q : Place) → IsReading bytes ss p → IsReading bytes ts q → (ss ≡ ts) × (p ≡ q)
one_reading bytes ss ts p q a b =
    let o : One ss ts p q = one_of ss ts p q a.each a.ends b.each b.ends (sym a.joined ∙ b.joined) in (o.sessions, o.place)

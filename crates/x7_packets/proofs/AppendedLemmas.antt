-- The reading and the history of bytes after others that end searching.
use Rattle.std.proofs.Common.{◌≡◌, ℕ, inl, inr, take, drop, take-append-drop, subst, ◌+◌, ◌<◌, ◌==◌, ◌⊎◌, Bool, true, false, if◌then◌else◌, List, [], ◌∷◌, ◌++◌, length, refl, ap, sym, ◌∙◌, append_assoc, arith, length-append}
use Rattle.std.proofs.lemmas.Grind.{flat_map-append}
use Rattle.std.specs.List.{flat_map}
use Rattle.x7_words.specs.Word.{AreBytes}
use Rattle.x7_words.proofs.ListLemmas.{all_append, all_prefix, all_back, all_take}
use Rattle.x7_packets.specs.SyncWord.{sync_bytes, HasNoSync}
use Rattle.x7_packets.specs.declared.header.Step.{Step}
use Rattle.x7_packets.specs.declared.header.Step.TheVariants as step
use Rattle.x7_packets.specs.Packet.{stepped}
use Rattle.x7_packets.specs.Gap.{NoneBegins}
use Rattle.x7_packets.specs.Reading.{Place, Searching, Synced, EndedSession, IsPlace, IsReading, IsEndedSession, session_bytes, place_bytes, packet_bytes, is_synced, tail_of}
use Rattle.x7_packets.specs.ByHand.{Reading, reading_of}
use Rattle.x7_packets.specs.History.{History, Read, Write, Bad, entry, entered, entered_all, entered_sessions, entered_place, history, history_of}
use Rattle.x7_packets.proofs.ByHandLemmas.{reading_is, reading_is_found, Reads}
use Rattle.x7_packets.proofs.HistoryLemmas.{history_is}
use Rattle.x7_packets.specs.Appended.{BeginsWithDummy, MayFollow, moved, after_gap, gap_of, after}
use Rattle.x7_packets.proofs.SeamLemmas.{first_after, none_before_dummy, none_before_prefix, none_after}

-- bytes after a gap in which no sync word begins are read as they are alone
joined : (a b gap : List ℕ) (ss ts : List EndedSession) (q : Place) → AreBytes (a ++ b) → IsReading a ss (Searching gap) → IsReading b ts q → NoneBegins gap b → Reads (a ++ b) (after_gap ss gap ts q)
joined a b gap ss [] (Searching g) f r s n = record {
  fits = f;
  joined = ap (λ t. t ++ b) r.joined ∙ ap (λ t. (flat_map session_bytes ss ++ gap) ++ t) s.joined ∙ append_assoc (flat_map session_bytes ss) gap g;
  each = r.each;
  ends = none_after gap g (subst (NoneBegins gap) s.joined n) s.ends;
}
joined a b gap ss [] (Synced g packets tail) f r s n =
    let prefix : List ℕ = flat_map session_bytes ss in
    let rest : List ℕ = packet_bytes packets ++ tail in
    let whole : b ≡ g ++ (sync_bytes ++ (packet_bytes packets ++ tail)) = s.joined ∙ simp append_assoc in
    let regrouped : (prefix ++ gap) ++ (g ++ (sync_bytes ++ (packet_bytes packets ++ tail))) ≡ prefix ++ ((gap ++ g) ++ sync_bytes ++ packet_bytes packets ++ tail) = simp append_assoc in
    record {
      fits = f;
      joined = ap (λ t. t ++ b) r.joined ∙ ap (λ t. (prefix ++ gap) ++ t) whole ∙ regrouped;
      each = r.each;
      ends = (first_after gap g rest (subst (NoneBegins gap) whole n) s.ends.0, s.ends.1, s.ends.2, s.ends.3);
    }
joined a b gap ss (t ∷ ts) q f r s n =
    let prefix : List ℕ = flat_map session_bytes ss in
    let rest : List ℕ = packet_bytes t.packets ++ (flat_map session_bytes ts ++ place_bytes q) in
    let first : EndedSession = record { gap = gap ++ t.gap; packets = t.packets } in
    let whole : b ≡ t.gap ++ (sync_bytes ++ rest) = s.joined ∙ simp append_assoc in
    let regrouped : (prefix ++ gap) ++ (t.gap ++ (sync_bytes ++ rest)) ≡ (prefix ++ (session_bytes first ++ flat_map session_bytes ts)) ++ place_bytes q = simp append_assoc in
    record {
      fits = f;
      joined = ap (λ t. t ++ b) r.joined ∙ ap (λ t. (prefix ++ gap) ++ t) whole ∙ regrouped
          ∙ ap (λ t. t ++ place_bytes q) (sym (flat_map-append session_bytes ss (first ∷ ts)));
      each = all_append IsEndedSession ss (first ∷ ts) r.each (record { first = first_after gap t.gap rest (subst (NoneBegins gap) whole n) s.each.0.first; packets = s.each.0.packets; ended = s.each.0.ended }, s.each.1);
      ends = s.ends;
    }

same_reading : (r s : Reading) → r.sessions ≡ s.sessions → r.place ≡ s.place → r ≡ s
same_reading r s e f = ap (λ (x : List EndedSession). record { sessions = x; place = r.place }) e ∙ ap (λ (x : Place). record { sessions = s.sessions; place = x }) f

-- more bytes stand after those that end at this place: these end searching, and no sync word begins in the open gap
pub record ComesAfter (place : Place) (more : List ℕ) : Type 0 where
  pub searching : is_synced place ≡ false
  pub none : NoneBegins (gap_of place) more

-- bytes that may follow others that end at a place come after these
may_stand : (place : Place) (more : List ℕ) → IsPlace place → MayFollow place more → ComesAfter place more
may_stand place more is m = record { searching = m.searching; none = by place is m.searching m.apart }
  where
    by : (place : Place) → IsPlace place → is_synced place ≡ false → (gap_of place ≡ []) ⊎ BeginsWithDummy more → NoneBegins (gap_of place) more
    by place is e (inl none) = λ prefix back f. omega (arith, ap length none)
    by (Searching gap) is e (inr dummy) = none_before_dummy gap more is dummy
    by (Synced gap packets tail) is e (inr dummy) = absurd (cc)

by_place : (a b : List ℕ) (ss : List EndedSession) (p : Place) → AreBytes (a ++ b) → IsReading a ss p → ComesAfter p b → reading_of (a ++ b) ≡ after (record { sessions = ss; place = p }) (reading_of b)
by_place a b ss (Searching gap) f r d =
    let found : IsReading b (reading_of b).sessions (reading_of b).place = reading_is_found b (all_back (λ x. x < 256) a b f) in
    let all : Reading = after_gap ss gap (reading_of b).sessions (reading_of b).place in
    let is : (all.sessions ≡ (reading_of (a ++ b)).sessions) × (all.place ≡ (reading_of (a ++ b)).place) = reading_is (a ++ b) all.sessions all.place (joined a b gap ss (reading_of b).sessions (reading_of b).place f r found d.none) in
    sym (same_reading all (reading_of (a ++ b)) is.0 is.1)
by_place a b ss (Synced gap packets tail) f r d = absurd (let e : true ≡ false = d.searching in cc)

read_appended : (a b : List ℕ) → AreBytes (a ++ b) → ComesAfter (reading_of a).place b → reading_of (a ++ b) ≡ after (reading_of a) (reading_of b)
read_appended a b f d = by_place a b (reading_of a).sessions (reading_of a).place f (reading_is_found a (all_prefix (λ x. x < 256) a b f)) d

synced_same : (before : List EndedSession) (prefix : List ℕ) (ts : List EndedSession) (q : Place) → is_synced (after_gap before prefix ts q).place ≡ is_synced q
synced_same before prefix [] (Searching gap) = refl
synced_same before prefix [] (Synced gap packets tail) = refl
synced_same before prefix (t ∷ ts) q = refl

tail_same : (before : List EndedSession) (prefix : List ℕ) (ts : List EndedSession) (q : Place) → tail_of (after_gap before prefix ts q).place ≡ tail_of q
tail_same before prefix [] (Searching gap) = refl
tail_same before prefix [] (Synced gap packets tail) = refl
tail_same before prefix (t ∷ ts) q = refl

pub ends_appended : (a b : List ℕ) → AreBytes (a ++ b) → ComesAfter (reading_of a).place b → is_synced (reading_of (a ++ b)).place ≡ is_synced (reading_of b).place
ends_appended a b f d = ap (λ (r : Reading). is_synced r.place) (read_appended a b f d) ∙ synced_same (reading_of a).sessions (gap_of (reading_of a).place) (reading_of b).sessions (reading_of b).place

-- the access of a step that is entered n bytes later, among accesses moved by n and before others, is moved by n
entered_moved : (n place k : ℕ) (s : Step) (h g : History) → k ≡ n + place → entered k s (moved n h ++ g) ≡ moved n (entered place s h) ++ g
entered_moved n place k (step.Payload register w) h g e = ap (λ (x : ℕ). entry (Write register w) x ∷ (moved n h ++ g)) e
entered_moved n place k (step.Read register count) h g e = by_count (count == 0)
  where
    by_count : (b : Bool) → (if b then moved n h ++ g else entry (Read register count) k ∷ (moved n h ++ g)) ≡ moved n (if b then h else entry (Read register count) place ∷ h) ++ g
    by_count true = refl
    by_count false = ap (λ (x : ℕ). entry (Read register count) x ∷ (moved n h ++ g)) e
entered_moved n place k (step.Bad w) h g e = ap (λ (x : ℕ). entry (Bad w) x ∷ (moved n h ++ g)) e
entered_moved n place k step.Filler h g e = refl
entered_moved n place k step.Nop h g e = refl
entered_moved n place k (step.Open register count) h g e = refl

all_moved : (n place k : ℕ) (ss : List (ℕ × Step)) (h g : History) → k ≡ n + place → entered_all k ss (moved n h ++ g) ≡ moved n (entered_all place ss h) ++ g
all_moved n place k [] h g e = refl
all_moved n place k (s ∷ ss) h g e =
    ap (λ (t : History). entered_all (k + 4) ss t) (entered_moved n (place + 4) (k + 4) s.1 h g (omega arith))
    ∙ all_moved n (place + 4) (k + 4) ss (entered (place + 4) s.1 h) g (omega arith)

sessions_moved : (n place k : ℕ) (ss : List EndedSession) (h g : History) → k ≡ n + place → entered_sessions k ss (moved n h ++ g) ≡ moved n (entered_sessions place ss h) ++ g
sessions_moved n place k [] h g e = refl
sessions_moved n place k (s ∷ ss) h g e =
    ap (λ (t : History). entered_sessions (k + length (session_bytes s)) ss t) (all_moved n (place + length s.gap + 4) (k + length s.gap + 4) (flat_map stepped s.packets) h g (omega arith))
    ∙ sessions_moved n (place + length (session_bytes s)) (k + length (session_bytes s)) ss (entered_all (place + length s.gap + 4) (flat_map stepped s.packets) h) g (omega arith)

place_moved : (n place k : ℕ) (q : Place) (h g : History) → k ≡ n + place → entered_place k q (moved n h ++ g) ≡ moved n (entered_place place q h) ++ g
place_moved n place k (Searching gap) h g e = refl
place_moved n place k (Synced gap packets tail) h g e = all_moved n (place + length gap + 4) (k + length gap + 4) (flat_map stepped packets) h g (omega arith)

sessions_after : (n : ℕ) (ss ts : List EndedSession) (h : History) → entered_sessions n (ss ++ ts) h ≡ entered_sessions (n + length (flat_map session_bytes ss)) ts (entered_sessions n ss h)
sessions_after n [] ts h = ap (λ (x : ℕ). entered_sessions x ts h) (omega arith)
sessions_after n (s ∷ ss) ts h =
    sessions_after (n + length (session_bytes s)) ss ts (entered_all (n + length s.gap + 4) (flat_map stepped s.packets) h)
    ∙ ap (λ (x : ℕ). entered_sessions x ts (entered_sessions (n + length (session_bytes s)) ss (entered_all (n + length s.gap + 4) (flat_map stepped s.packets) h))) (omega (arith, length-append (session_bytes s) (flat_map session_bytes ss)))

-- the history of a reading after one that ends searching
pub history_joined : (n : ℕ) (gap : List ℕ) (ss ts : List EndedSession) (q : Place) → n ≡ length (flat_map session_bytes ss) + length gap
    → (let r : Reading = after_gap ss gap ts q in history r.sessions r.place ≡ moved n (history ts q) ++ entered_sessions 0 ss [])
history_joined n gap ss [] (Searching g) e = refl
history_joined n gap ss [] (Synced g packets tail) e =
    all_moved n (0 + length g + 4) (length (flat_map session_bytes ss) + length (gap ++ g) + 4) (flat_map stepped packets) [] (entered_sessions 0 ss []) (omega (arith, length-append gap g))
history_joined n gap ss (t ∷ ts) q e =
    let first : EndedSession = record { gap = gap ++ t.gap; packets = t.packets } in
    let old : History = entered_sessions 0 ss [] in
    let l : ℕ = length (flat_map session_bytes ss) in
    let steps : List (ℕ × Step) = flat_map stepped t.packets in
    let parts : session_bytes first ≡ gap ++ session_bytes t = simp append_assoc in
    let longer : length (session_bytes first) ≡ length gap + length (session_bytes t) = ap length parts ∙ length-append gap (session_bytes t) in
    let whole : length (flat_map session_bytes (ss ++ first ∷ ts)) ≡ n + length (flat_map session_bytes (t ∷ ts)) =
    omega (arith, ap length (flat_map-append session_bytes ss (first ∷ ts)), length-append (flat_map session_bytes ss) (flat_map session_bytes (first ∷ ts)), length-append (session_bytes first) (flat_map session_bytes ts), length-append (session_bytes t) (flat_map session_bytes ts), longer) in
    let one : entered_sessions 0 (ss ++ first ∷ ts) [] ≡ moved n (entered_sessions 0 (t ∷ ts) []) ++ old =
    sessions_after 0 ss (first ∷ ts) []
    ∙ ap (λ (x : History). entered_sessions (0 + l + length (session_bytes first)) ts x) (all_moved n (0 + length t.gap + 4) (0 + l + length (gap ++ t.gap) + 4) steps [] old (omega (arith, length-append gap t.gap)))
    ∙ sessions_moved n (0 + length (session_bytes t)) (0 + l + length (session_bytes first)) ts (entered_all (0 + length t.gap + 4) steps []) old (omega (arith, longer)) in
    ap (λ (x : History). entered_place (length (flat_map session_bytes (ss ++ first ∷ ts))) q x) one
    ∙ place_moved n (length (flat_map session_bytes (t ∷ ts))) (length (flat_map session_bytes (ss ++ first ∷ ts))) q (entered_sessions 0 (t ∷ ts) []) old whole

history_by_place : (a b : List ℕ) (ss : List EndedSession) (p : Place) → IsReading a ss p → is_synced p ≡ false → (let r : Reading = after (record { sessions = ss; place = p }) (reading_of b) in history r.sessions r.place) ≡ moved (length a) (history_of b) ++ history ss p
history_by_place a b ss (Searching gap) r e = history_joined (length a) gap ss (reading_of b).sessions (reading_of b).place (ap length r.joined ∙ length-append (flat_map session_bytes ss) gap)
history_by_place a b ss (Synced gap packets tail) r e = absurd (cc)

pub history_appended : (a b : List ℕ) → AreBytes (a ++ b) → ComesAfter (reading_of a).place b → history_of (a ++ b) ≡ moved (length a) (history_of b) ++ history_of a
history_appended a b f d =
    ap (λ (r : Reading). history r.sessions r.place) (read_appended a b f d)
    ∙ history_by_place a b (reading_of a).sessions (reading_of a).place (reading_is_found a (all_prefix (λ x. x < 256) a b f)) d.searching

-- bytes without the sync word are a gap, and enter nothing
gap_reading : (bytes : List ℕ) → AreBytes bytes → HasNoSync bytes → IsReading bytes [] (Searching bytes)
gap_reading bytes f n = record { fits = f; joined = refl; each = tt; ends = n }

pub nothing_read : (bytes : List ℕ) → AreBytes bytes → HasNoSync bytes → (reading_of bytes ≡ record { sessions = []; place = Searching bytes }) × (history_of bytes ≡ [])
nothing_read bytes f n =
    let is : ([] ≡ (reading_of bytes).sessions) × (Searching bytes ≡ (reading_of bytes).place) = reading_is bytes [] (Searching bytes) (gap_reading bytes f n) in
    (sym (same_reading (record { sessions = []; place = Searching bytes }) (reading_of bytes) is.0 is.1), sym (history_is bytes [] (Searching bytes) (gap_reading bytes f n)))

-- ---- bytes that may follow

module _ (a b : List ℕ) (f : AreBytes (a ++ b)) (m : MayFollow (reading_of a).place b) where
  may : ComesAfter (reading_of a).place b
  may = may_stand (reading_of a).place b (reading_is_found a (all_prefix (λ x. x < 256) a b f)).ends m

  pub read_after : reading_of (a ++ b) ≡ after (reading_of a) (reading_of b)
  read_after = read_appended a b f may

  pub ends_after : is_synced (reading_of (a ++ b)).place ≡ is_synced (reading_of b).place
  ends_after = ends_appended a b f may

  pub tail_after : tail_of (reading_of (a ++ b)).place ≡ tail_of (reading_of b).place
  tail_after = ap (λ (r : Reading). tail_of r.place) read_after ∙ tail_same (reading_of a).sessions (gap_of (reading_of a).place) (reading_of b).sessions (reading_of b).place

  pub history_after : history_of (a ++ b) ≡ moved (length a) (history_of b) ++ history_of a
  history_after = history_appended a b f may

  -- the history of a prefix of further bytes
  pub prefix_after : (k : ℕ) → history_of (a ++ take k b) ≡ moved (length a) (history_of (take k b)) ++ history_of a
  prefix_after k =
      let fits : AreBytes (a ++ take k b) = all_append (λ x. x < 256) a (take k b) (all_prefix (λ x. x < 256) a b f) (all_take (λ x. x < 256) k b (all_back (λ x. x < 256) a b f)) in
      history_appended a (take k b) fits (record { searching = m.searching; none = none_before_prefix (gap_of (reading_of a).place) (take k b) (drop k b) (subst (NoneBegins (gap_of (reading_of a).place)) (sym (take-append-drop k b)) may.none) })

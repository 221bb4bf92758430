-- Lemmas on specs/ByHand: what is found by hand is what the relations say.
use Rattle.std.proofs.Common.{◌≡◌, ℕ, ◌-◌, ◌<◌, ◌≤◌, ◌^◌, Bool, true, false, List, [], ◌∷◌, ◌++◌, Option, None, length, drop, if◌then◌else◌, refl, ap, sym, ◌∙◌, append_assoc, append-nil, arith, length-append}
use Rattle.std.proofs.lemmas.List.{take-append-drop}
use Rattle.std.proofs.lemmas.Bool.{ltb-true, ltb-false}
use Rattle.std.proofs.lemmas.Slice.Eq.{bytes_eq-Decides}
use Rattle.std.proofs.Math.Seq.{drop-append_seam}
use Rattle.std.specs.Prelude.{nat_lt}
use Rattle.std.specs.List.{flat_map, fold}
use Rattle.x7_words.specs.Word.{AreBytes, AreWords, bytes_of_word, word_of_bytes}
use Rattle.x7_words.proofs.ListLemmas.{all_append, all_prefix, all_back, flat_map_last}
use Rattle.x7_words.proofs.WordLemmas.{bytes_words, words_fit}
use Rattle.x7_packets.specs.SyncWord.{sync_bytes, EndsWithSync}
use Rattle.x7_packets.specs.Packet.{Packet, HavePackets, EachPacket, IsPacket, IsWhole, OnlyLastMayEnd, NoneEnds, latest_after, count_of, register_named_by, words, ended, last_ends}
use Rattle.x7_packets.specs.Reading.{Place, Searching, Synced, EndedSession, IsReading, IsEndedSession, packet_bytes, session_bytes}
use Rattle.x7_packets.specs.ByHand.{header_packet, with_payload_word, with_word_after, packets_with_word, packets_of, AreOfOneSession, is_sync, last_four, before_last_four, Reading, with_session_byte, with_byte_at, with_byte, reading_of}
use Rattle.x7_packets.proofs.PacketLemmas.{only_more, one_list}
use Rattle.x7_packets.proofs.SyncLemmas.{none_yet, first_here, none_empty}
use Rattle.x7_packets.proofs.CutLemmas.{joined_more}
use Rattle.x7_packets.proofs.EndLemmas.{after_end}
use Rattle.x7_packets.proofs.UniqueLemmas.{one_reading, each_fits}

-- a payload whose last word does not end the session has no word that does
none_of : (register : ℕ) (ws : List ℕ) → OnlyLastMayEnd register ws → last_ends register ws ≡ false → NoneEnds register ws
none_of register [] o e = tt
none_of register (w ∷ []) o e = (e, tt)
none_of register (w ∷ x ∷ ws) o e = (o.0, none_of register (x ∷ ws) o.1 e)

header_is : (latest : Option ℕ) (w : ℕ) → w < 2 ^ 32 → IsPacket latest (header_packet latest w)
header_is latest w f = record { fits = (f, tt); means = refl; most = omega arith; goes_on = tt }

longer_is : (latest : Option ℕ) (p : Packet) (w : ℕ) → w < 2 ^ 32 → IsPacket latest p → last_ends (register_named_by p.step) p.payload ≡ false → length p.payload < count_of p.step → IsPacket latest (with_payload_word p w)
longer_is latest p w f i e l = record {
  fits = all_append (λ x. x < 2 ^ 32) (words p) (w ∷ []) i.fits (f, tt);
  means = i.means;
  most = omega (arith, length-append p.payload (w ∷ []));
  goes_on = only_more (register_named_by p.step) p.payload w (none_of (register_named_by p.step) p.payload i.goes_on e);
}

-- a last packet with one word more, by whether it lacks payload words
last_each : (latest : Option ℕ) (p : Packet) (w : ℕ) (b : Bool) → nat_lt (length p.payload) (count_of p.step) ≡ b → w < 2 ^ 32 → IsPacket latest p → last_ends (register_named_by p.step) p.payload ≡ false
    → EachPacket latest (if b then with_payload_word p w ∷ [] else p ∷ header_packet (latest_after latest p.step) w ∷ [])
last_each latest p w true t f i e = longer_is latest p w f i e (ltb-true _ _ t)
last_each latest p w false t f i e = (i, record { all = (let h : count_of p.step ≤ length p.payload = ltb-false _ _ t in omega (arith, i.most)); none_ends = none_of (register_named_by p.step) p.payload i.goes_on e }, header_is (latest_after latest p.step) w f)

each_after : (latest : Option ℕ) (p : Packet) (ps : List Packet) → IsPacket latest p → IsWhole p → EachPacket (latest_after latest p.step) ps → EachPacket latest (p ∷ ps)
each_after latest p [] i h a = i
each_after latest p (q ∷ ps) i h a = (i, h, a)

-- packets that do not end the session, with one word more
word_each : (latest : Option ℕ) (ps : List Packet) (w : ℕ) → w < 2 ^ 32 → EachPacket latest ps → ended ps ≡ false → EachPacket latest (with_word_after latest ps w)
word_each latest [] w f a e = header_is latest w f
word_each latest (p ∷ []) w f a e = last_each latest p w (nat_lt (length p.payload) (count_of p.step)) refl f a e
word_each latest (p ∷ q ∷ ps) w f a e = each_after latest p _ a.0 a.1 (word_each (latest_after latest p.step) (q ∷ ps) w f a.2 e)

last_joined : (latest : Option ℕ) (p : Packet) (w : ℕ) (b : Bool) → flat_map words (if b then with_payload_word p w ∷ [] else p ∷ header_packet (latest_after latest p.step) w ∷ []) ≡ flat_map words (p ∷ []) ++ w ∷ []
last_joined latest p w true = append-nil _ ∙ sym (ap (λ t. p.head ∷ t ++ w ∷ []) (append-nil p.payload))
last_joined latest p w false = sym (ap (λ t. p.head ∷ t ++ w ∷ []) (append-nil p.payload))

word_joined : (latest : Option ℕ) (ps : List Packet) (w : ℕ) → flat_map words (with_word_after latest ps w) ≡ flat_map words ps ++ w ∷ []
word_joined latest [] w = refl
word_joined latest (p ∷ []) w = last_joined latest p w (nat_lt (length p.payload) (count_of p.step))
word_joined latest (p ∷ q ∷ ps) w = ap (λ t. words p ++ t) (word_joined (latest_after latest p.step) (q ∷ ps) w) ∙ sym (append_assoc (words p) (flat_map words (q ∷ ps)) (w ∷ []))

-- words after those of packets that were found
words_after : (prefix back : List ℕ) (ps : List Packet) → AreWords back → ((more rest : List ℕ) (w : ℕ) → back ≡ more ++ w ∷ rest → ended (fold packets_with_word ps more) ≡ false) → HavePackets prefix ps → HavePackets (prefix ++ back) (fold packets_with_word ps back)
words_after prefix [] ps f o a = rw append-nil a
words_after prefix (w ∷ back) ps f o a =
    let next : HavePackets (prefix ++ w ∷ []) (packets_with_word ps w) = record { joined = ap (λ t. t ++ w ∷ []) a.joined ∙ sym (word_joined None ps w); each = word_each None ps w f.0 a.each (o [] back w refl) } in
    let all : HavePackets ((prefix ++ w ∷ []) ++ back) (fold packets_with_word (packets_with_word ps w) back) = words_after (prefix ++ w ∷ []) back (packets_with_word ps w) f.1 (λ more rest x e. o (w ∷ more) rest x (ap (λ t. w ∷ t) e)) next in
    rw append_assoc at all

pub packets_are_found : (ws : List ℕ) → AreWords ws → AreOfOneSession ws → HavePackets ws (packets_of ws)
packets_are_found ws f o = words_after [] ws [] f o (record { joined = refl; each = tt })

-- the word that ends a session is the last of the words of packets
goes_on : (ws prefix rest : List ℕ) (w : ℕ) (ps qs : List Packet) (b : Bool) → ended ps ≡ b → HavePackets ws qs → ws ≡ prefix ++ w ∷ rest → HavePackets prefix ps → ended ps ≡ false
goes_on ws prefix rest w ps qs true t a e b = absurd (let none : w ∷ rest ≡ [] = after_end None ps qs (w ∷ rest) b.each t a.each (ap (λ xs. xs ++ w ∷ rest) (sym b.joined) ∙ sym e ∙ a.joined) in cc)
goes_on ws prefix rest w ps qs false t a e b = t

none_early : (ws prefix back rest : List ℕ) (w : ℕ) (ps qs : List Packet) → HavePackets ws qs → ws ≡ prefix ++ (back ++ w ∷ rest) → AreWords back → HavePackets prefix ps → ended (fold packets_with_word ps back) ≡ false
none_early ws prefix [] rest w ps qs a e f b = goes_on ws prefix rest w ps qs (ended ps) refl a e b
none_early ws prefix (x ∷ back) rest w ps qs a e f b =
    let calm : ended ps ≡ false = goes_on ws prefix (back ++ w ∷ rest) x ps qs (ended ps) refl a e b in
    let next : HavePackets (prefix ++ x ∷ []) (packets_with_word ps x) = record { joined = ap (λ t. t ++ x ∷ []) b.joined ∙ sym (word_joined None ps x); each = word_each None ps x f.0 b.each calm } in
    none_early ws (prefix ++ x ∷ []) back rest w (packets_with_word ps x) qs a (e ∙ sym (append_assoc prefix (x ∷ []) (back ++ w ∷ rest))) f.1 next

words_of_packets_fit : (ws : List ℕ) (ps : List Packet) → HavePackets ws ps → AreWords ws
words_of_packets_fit ws ps a = rw a.joined (each_fits None ps a.each)

pub one_session : (ws : List ℕ) (ps : List Packet) → HavePackets ws ps → AreOfOneSession ws
one_session ws ps a prefix back w e =
    let fits : AreWords (prefix ++ w ∷ back) = rw e at (words_of_packets_fit ws ps a) in
    none_early ws [] prefix back w [] ps a e (all_prefix (λ x. x < 2 ^ 32) prefix (w ∷ back) fits) (record { joined = refl; each = tt })

pub packets_are : (ws : List ℕ) (ps : List Packet) → HavePackets ws ps → ps ≡ packets_of ws
packets_are ws ps a =
    let found : HavePackets ws (packets_of ws) = packets_are_found ws (words_of_packets_fit ws ps a) (one_session ws ps a) in
    one_list None ps (packets_of ws) a.each found.each (sym a.joined ∙ found.joined)

-- the bytes that `is_sync` takes are those of the sync word
sync_is : (xs : List ℕ) → is_sync xs ≡ true → xs ≡ sync_bytes
sync_is xs e = (bytes_eq-Decides xs sync_bytes).0 e

ends_with : (bytes : List ℕ) → is_sync (last_four bytes) ≡ true → bytes ≡ before_last_four bytes ++ sync_bytes
ends_with bytes e = sym (take-append-drop (length bytes - 4) bytes) ∙ ap (λ t. before_last_four bytes ++ t) (sync_is (last_four bytes) e)

last_are : (prefix : List ℕ) → last_four (prefix ++ sync_bytes) ≡ sync_bytes
last_are prefix =
    let n : length (prefix ++ sync_bytes) - 4 ≡ length prefix = omega (arith, length-append prefix sync_bytes) in
    ap (λ k. drop k (prefix ++ sync_bytes)) n ∙ drop-append_seam prefix sync_bytes

ends_not : (bytes : List ℕ) → is_sync (last_four bytes) ≡ false → EndsWithSync bytes → ⊥
ends_not bytes e w = let t : last_four bytes ≡ sync_bytes = ap last_four w.1 ∙ last_are w.0 in let u : is_sync (last_four bytes) ≡ true = ap is_sync t in cc

-- a reading is one of these bytes
abbrev pub Reads : List ℕ → Reading → Type 0
Reads bytes r = IsReading bytes r.sessions r.place

-- a gap with a byte more, by whether it ends with the sync word
gap_more : (sessions : List EndedSession) (bytes gap : List ℕ) (byte : ℕ) (b : Bool) → is_sync (last_four (gap ++ byte ∷ [])) ≡ b → AreBytes (bytes ++ byte ∷ []) → IsReading bytes sessions (Searching gap)
    → IsReading (bytes ++ byte ∷ []) sessions (if b then Synced (before_last_four (gap ++ byte ∷ [])) [] [] else Searching (gap ++ byte ∷ []))
gap_more sessions bytes gap byte true e f r =
    let prefix : List ℕ = before_last_four (gap ++ byte ∷ []) in
    let whole : gap ++ byte ∷ [] ≡ prefix ++ sync_bytes = ends_with (gap ++ byte ∷ []) e in
    record {
      fits = f;
      joined = ap (λ t. t ++ byte ∷ []) r.joined ∙ append_assoc (flat_map session_bytes sessions) gap (byte ∷ [])
          ∙ ap (λ t. flat_map session_bytes sessions ++ t) (whole ∙ sym (append-nil (prefix ++ sync_bytes)) ∙ sym (append-nil (prefix ++ sync_bytes ++ [])));
      each = r.each;
      ends = (first_here gap prefix byte r.ends whole, tt, refl, omega arith);
    }
gap_more sessions bytes gap byte false e f r = record {
  fits = f;
  joined = ap (λ t. t ++ byte ∷ []) r.joined ∙ append_assoc (flat_map session_bytes sessions) gap (byte ∷ []);
  each = r.each;
  ends = none_yet gap byte r.ends (ends_not (gap ++ byte ∷ []) e);
}

-- a tail with a byte more that completes no word
tail_more : (sessions : List EndedSession) (bytes gap tail : List ℕ) (packets : List Packet) (byte : ℕ) → length tail < 3 → AreBytes (bytes ++ byte ∷ []) → IsReading bytes sessions (Synced gap packets tail)
    → IsReading (bytes ++ byte ∷ []) sessions (Synced gap packets (tail ++ byte ∷ []))
tail_more sessions bytes gap tail packets byte l f r = record {
  fits = f;
  joined = ap (λ t. t ++ byte ∷ []) r.joined ∙ simp append_assoc;
  each = r.each;
  ends = (r.ends.0, r.ends.1, r.ends.2, omega (arith, length-append tail (byte ∷ [])));
}

-- the bytes of packets with a word more
word_bytes : (packets : List Packet) (w : ℕ) → packet_bytes (packets_with_word packets w) ≡ packet_bytes packets ++ bytes_of_word w
word_bytes packets w = ap (flat_map bytes_of_word) (word_joined None packets w) ∙ flat_map_last bytes_of_word (flat_map words packets) w

-- a session with a word more, by whether the word ends it
word_more : (sessions : List EndedSession) (bytes gap tail : List ℕ) (packets : List Packet) (byte w : ℕ) (b : Bool) → ended (packets_with_word packets w) ≡ b → w < 2 ^ 32 → bytes_of_word w ≡ tail ++ byte ∷ []
    → AreBytes (bytes ++ byte ∷ []) → IsReading bytes sessions (Synced gap packets tail)
    → Reads (bytes ++ byte ∷ []) (if b then record { sessions = sessions ++ record { gap = gap; packets = packets_with_word packets w } ∷ []; place = Searching [] } else record { sessions = sessions; place = Synced gap (packets_with_word packets w) [] })
word_more sessions bytes gap tail packets byte w true e f four fits r =
    let all : List Packet = packets_with_word packets w in
    let grown : packet_bytes all ≡ packet_bytes packets ++ bytes_of_word w = word_bytes packets w in
    let joined : bytes ++ byte ∷ [] ≡ flat_map session_bytes sessions ++ (gap ++ sync_bytes ++ packet_bytes all) = joined_more (flat_map session_bytes sessions) bytes gap tail (byte ∷ []) (packet_bytes all) (packet_bytes packets) (bytes_of_word w) r.joined grown four in
    let session : EndedSession = record { gap = gap; packets = all } in
    let sessions_are : flat_map session_bytes (sessions ++ session ∷ []) ≡ flat_map session_bytes sessions ++ (gap ++ sync_bytes ++ packet_bytes all) = flat_map_last session_bytes sessions session in
    record {
      fits = fits;
      joined = joined ∙ sym sessions_are ∙ sym (append-nil (flat_map session_bytes (sessions ++ session ∷ [])));
      each = all_append IsEndedSession sessions (session ∷ []) r.each (record { first = r.ends.0; packets = word_each None packets w f r.ends.1 r.ends.2; ended = e }, tt);
      ends = none_empty;
    }
word_more sessions bytes gap tail packets byte w false e f four fits r =
    let all : List Packet = packets_with_word packets w in
    let grown : packet_bytes all ≡ packet_bytes packets ++ bytes_of_word w = word_bytes packets w in
    let joined : bytes ++ byte ∷ [] ≡ flat_map session_bytes sessions ++ (gap ++ sync_bytes ++ packet_bytes all) = joined_more (flat_map session_bytes sessions) bytes gap tail (byte ∷ []) (packet_bytes all) (packet_bytes packets) (bytes_of_word w) r.joined grown four in
    record {
      fits = fits;
      joined = joined ∙ ap (λ t. flat_map session_bytes sessions ++ t) (sym (append-nil (gap ++ sync_bytes ++ packet_bytes all)));
      each = r.each;
      ends = (r.ends.0, word_each None packets w f r.ends.1 r.ends.2, e, omega arith);
    }

-- a session with a byte more
session_more : (sessions : List EndedSession) (bytes gap tail : List ℕ) (packets : List Packet) (byte : ℕ) → AreBytes tail → byte < 256 → length tail < 4 → AreBytes (bytes ++ byte ∷ []) → IsReading bytes sessions (Synced gap packets tail)
    → Reads (bytes ++ byte ∷ []) (with_session_byte sessions gap packets tail byte)
session_more sessions bytes gap [] packets byte t b l f r = tail_more sessions bytes gap [] packets byte (omega arith) f r
session_more sessions bytes gap (x ∷ []) packets byte t b l f r = tail_more sessions bytes gap (x ∷ []) packets byte (omega arith) f r
session_more sessions bytes gap (x ∷ y ∷ []) packets byte t b l f r = tail_more sessions bytes gap (x ∷ y ∷ []) packets byte (omega arith) f r
session_more sessions bytes gap (x ∷ y ∷ z ∷ []) packets byte t b l f r =
    let fits : AreBytes (x ∷ y ∷ z ∷ byte ∷ []) = all_append (λ x. x < 256) (x ∷ y ∷ z ∷ []) (byte ∷ []) t (b, tt) in
    let w : ℕ = word_of_bytes (x ∷ y ∷ z ∷ byte ∷ []) in
    let four : bytes_of_word w ≡ x ∷ y ∷ z ∷ byte ∷ [] = bytes_words (x ∷ y ∷ z ∷ byte ∷ []) 1 fits (omega arith) in
    let small : AreWords (w ∷ []) = words_fit (x ∷ y ∷ z ∷ byte ∷ []) fits in
    word_more sessions bytes gap (x ∷ y ∷ z ∷ []) packets byte w (ended (packets_with_word packets w)) refl small.0 four f r
session_more sessions bytes gap (x ∷ y ∷ z ∷ u ∷ tail) packets byte t b l f r = absurd (omega arith)

byte_more : (bytes : List ℕ) (sessions : List EndedSession) (place : Place) (byte : ℕ) → byte < 256 → IsReading bytes sessions place → Reads (bytes ++ byte ∷ []) (with_byte_at sessions place byte)
byte_more bytes sessions (Searching gap) byte b r =
    gap_more sessions bytes gap byte (is_sync (last_four (gap ++ byte ∷ []))) refl (all_append (λ x. x < 256) bytes (byte ∷ []) r.fits (b, tt)) r
byte_more bytes sessions (Synced gap packets tail) byte b r =
    let all : AreBytes (flat_map session_bytes sessions ++ (gap ++ sync_bytes ++ packet_bytes packets ++ tail)) = rw r.joined at r.fits in
    let of_place : AreBytes (gap ++ sync_bytes ++ packet_bytes packets ++ tail) = all_back (λ x. x < 256) (flat_map session_bytes sessions) _ all in
    session_more sessions bytes gap tail packets byte (all_back (λ x. x < 256) (gap ++ sync_bytes ++ packet_bytes packets) tail of_place) b r.ends.3 (all_append (λ x. x < 256) bytes (byte ∷ []) r.fits (b, tt)) r

bytes_after : (bytes more : List ℕ) (r : Reading) → AreBytes more → Reads bytes r → Reads (bytes ++ more) (fold with_byte r more)
bytes_after bytes [] r f a = rw append-nil a
bytes_after bytes (byte ∷ more) r f a =
    let all : Reads ((bytes ++ byte ∷ []) ++ more) (fold with_byte (with_byte r byte) more) = bytes_after (bytes ++ byte ∷ []) more (with_byte r byte) f.1 (byte_more bytes r.sessions r.place byte f.0 a) in
    rw append_assoc at all

pub reading_is_found : (bytes : List ℕ) → AreBytes bytes → IsReading bytes (reading_of bytes).sessions (reading_of bytes).place
reading_is_found bytes f = bytes_after [] bytes (record { sessions = []; place = Searching [] }) f (record { fits = tt; joined = refl; each = tt; ends = none_empty })

-- the reading of bytes is the one that is found by hand
pub reading_is : (bytes : List ℕ) (ss : List EndedSession) (p : Place) → IsReading bytes ss p → (ss ≡ (reading_of bytes).sessions) × (p ≡ (reading_of bytes).place)
reading_is bytes ss p r = one_reading bytes ss (reading_of bytes).sessions p (reading_of bytes).place r (reading_is_found bytes r.fits)

-- The lines of a listing stand for the bytes that it is of.
use Rattle.std.proofs.Common.{◌≡◌, ℕ, ◌^◌, ◌<◌, ◌==◌, if◌then◌else◌, Bool, true, false, List, [], ◌∷◌, ◌++◌, None, map, refl, ap, ap₂, sym, subst, ◌∙◌, arith}
use Rattle.std.proofs.lemmas.Grind.{flat_map-append}
use Rattle.std.specs.List.{AllByRecursion, flat_map}
use Rattle.x7_words.specs.Word.{AreBytes, AreWords, bytes_of_word}
use Rattle.x7_words.proofs.ListLemmas.{all_append, all_back, all_prefix}
use Rattle.x7_packets.specs.Packet.{register_named_by, Packet, words}
use Rattle.x7_packets.specs.Reading.{EndedSession, IsEndedSession, IsPlace, IsReading, packet_bytes, Place, place_bytes, Searching, session_bytes, Synced}
use Rattle.x7_packets.specs.SyncWord.{sync_bytes}
use Rattle.x7_packets.specs.ByHand.{reading_of}
use Rattle.x7_packets.proofs.ByHandLemmas.{reading_is_found}
use Rattle.x7_packets.proofs.UniqueLemmas.{each_fits}
use Rattle.x7_text.specs.Row.{AreFullButLast, rows}
use Rattle.x7_text.proofs.RowLemmas.{rows_full, rows_joined}
use Rattle.x7_listing.specs.HeadLine.{line_of_head}
use Rattle.x7_listing.specs.Line.{Line, Bytes, Sync, Data, line_bytes, cmd_line}
use Rattle.x7_listing.specs.Listing.{gap_and_sync_lines, gap_lines, listing_lines, packet_lines, packets_lines, payload_lines, place_lines, session_lines}
use Rattle.x7_listing.proofs.line.LineTextLemmas.{Listed, IsLineOf, IsLineOfWord, cmd_stands, head_is_of_word, head_is_one, word_bytes}

-- each is a line of a listing, and these are their bytes
pub record Stands (lines : List Line) (bytes : List ℕ) : Type 0 where
  pub are : flat_map (line_bytes 0) lines ≡ bytes
  pub each : AllByRecursion Listed lines

both_stand : (a b : List Line) (x y : List ℕ) → Stands a x → Stands b y → Stands (a ++ b) (x ++ y)
both_stand a b x y s t = record { are = flat_map-append (line_bytes 0) a b ∙ ap₂ (λ (p q : List ℕ). p ++ q) s.are t.are; each = all_append Listed a b s.each t.each }

one_stands : (l : Line) (ls : List Line) (x y : List ℕ) → line_bytes 0 l ≡ x → Listed l → Stands ls y → Stands (l ∷ ls) (x ++ y)
one_stands l ls x y e h s = record { are = ap₂ (λ (p q : List ℕ). p ++ q) e s.are; each = (h, s.each) }

stands_for : (ls : List Line) (x y : List ℕ) → x ≡ y → Stands ls x → Stands ls y
stands_for ls x y e s = subst (λ t. Stands ls t) e s

none_stand : Stands [] []
none_stand = record { are = refl; each = tt }

abbrev pub joined : List (List ℕ) → List ℕ
joined rs = flat_map (λ (r : List ℕ). r) rs

byte_rows : (rs : List (List ℕ)) → AreFullButLast 32 rs → AreBytes (joined rs) → Stands (map Bytes rs) (joined rs)
byte_rows [] f a = none_stand
byte_rows (r ∷ []) f a = one_stands (Bytes r) [] r [] refl ((all_prefix (λ b. b < 256) r [] a, f.0, f.1), tt) none_stand
byte_rows (r ∷ s ∷ rs) f a = one_stands (Bytes r) (map Bytes (s ∷ rs)) r (joined (s ∷ rs)) refl ((all_prefix (λ b. b < 256) r (joined (s ∷ rs)) a, omega (arith, f.0), omega (arith, f.0)), tt) (byte_rows (s ∷ rs) f.1 (all_back (λ b. b < 256) r (joined (s ∷ rs)) a))

word_rows : (rs : List (List ℕ)) → AreFullButLast 8 rs → AreWords (joined rs) → Stands (map Data rs) (flat_map bytes_of_word (joined rs))
word_rows [] f a = none_stand
word_rows (r ∷ []) f a = stands_for (Data r ∷ []) (flat_map bytes_of_word r ++ []) (flat_map bytes_of_word (r ++ [])) (sym (flat_map-append bytes_of_word r [])) (one_stands (Data r) [] (flat_map bytes_of_word r) [] refl ((all_prefix (λ w. w < 2 ^ 32) r [] a, f.0, f.1), tt) none_stand)
word_rows (r ∷ s ∷ rs) f a =
    stands_for (Data r ∷ map Data (s ∷ rs)) (flat_map bytes_of_word r ++ flat_map bytes_of_word (joined (s ∷ rs))) (flat_map bytes_of_word (r ++ joined (s ∷ rs))) (sym (flat_map-append bytes_of_word r (joined (s ∷ rs))))
    (one_stands (Data r) (map Data (s ∷ rs)) (flat_map bytes_of_word r) (flat_map bytes_of_word (joined (s ∷ rs))) refl ((all_prefix (λ w. w < 2 ^ 32) r (joined (s ∷ rs)) a, omega (arith, f.0), omega (arith, f.0)), tt) (word_rows (s ∷ rs) f.1 (all_back (λ w. w < 2 ^ 32) r (joined (s ∷ rs)) a)))

gap_stands : (bs : List ℕ) → AreBytes bs → Stands (gap_lines bs) bs
gap_stands bs a =
    let same : joined (rows 32 bs) ≡ bs = rows_joined 32 [] bs in
    stands_for (gap_lines bs) (joined (rows 32 bs)) bs same (byte_rows (rows 32 bs) (rows_full 32 [] bs (omega arith)) (subst (λ t. AreBytes t) (sym same) a))

data_stands : (ws : List ℕ) → AreWords ws → Stands (map Data (rows 8 ws)) (flat_map bytes_of_word ws)
data_stands ws a =
    let same : joined (rows 8 ws) ≡ ws = rows_joined 8 [] ws in
    stands_for (map Data (rows 8 ws)) (flat_map bytes_of_word (joined (rows 8 ws))) (flat_map bytes_of_word ws) (ap (flat_map bytes_of_word) same) (word_rows (rows 8 ws) (rows_full 8 [] ws (omega arith)) (subst (λ t. AreWords t) (sym same) a))

cmds_stand : (ws : List ℕ) → AreWords ws → Stands (map cmd_line ws) (flat_map bytes_of_word ws)
cmds_stand [] a = none_stand
cmds_stand (w ∷ ws) a = let p : IsLineOf w (cmd_line w) = cmd_stands w a.0 in
    one_stands (cmd_line w) (map cmd_line ws) (bytes_of_word w) (flat_map bytes_of_word ws) p.0 p.1 (cmds_stand ws a.1)

payload_by : (b : Bool) (ws : List ℕ) → AreWords ws → Stands (if b then map cmd_line ws else map Data (rows 8 ws)) (flat_map bytes_of_word ws)
payload_by true ws a = cmds_stand ws a
payload_by false ws a = data_stands ws a

packet_stands : (p : Packet) → AreWords (words p) → Stands (packet_lines p) (flat_map bytes_of_word (words p))
packet_stands p a =
    let q : IsLineOfWord p.head (line_of_head p.step p.head) = head_is_of_word p.step p.head a.0 in
    one_stands (line_of_head p.step p.head) (payload_lines (register_named_by p.step) p.payload) (bytes_of_word p.head) (flat_map bytes_of_word p.payload)
    (sym (word_bytes 0 (line_of_head p.step p.head) (head_is_one p.step p.head)) ∙ ap bytes_of_word q.0) q.1 (payload_by (register_named_by p.step == 4) p.payload a.1)

packets_stand : (ps : List Packet) → AreWords (flat_map words ps) → Stands (flat_map packet_lines ps) (packet_bytes ps)
packets_stand [] a = none_stand
packets_stand (p ∷ ps) a =
    stands_for (flat_map packet_lines (p ∷ ps)) (flat_map bytes_of_word (words p) ++ packet_bytes ps) (packet_bytes (p ∷ ps)) (sym (flat_map-append bytes_of_word (words p) (flat_map words ps)))
    (both_stand (packet_lines p) (flat_map packet_lines ps) (flat_map bytes_of_word (words p)) (packet_bytes ps) (packet_stands p (all_prefix (λ w. w < 2 ^ 32) (words p) (flat_map words ps) a)) (packets_stand ps (all_back (λ w. w < 2 ^ 32) (words p) (flat_map words ps) a)))

session_stands : (gap : List ℕ) (ps : List Packet) → AreBytes gap → AreWords (flat_map words ps) → Stands (packets_lines gap ps) (gap ++ sync_bytes ++ packet_bytes ps)
session_stands gap ps g a =
    let first : Stands (gap_and_sync_lines gap) (gap ++ sync_bytes) = both_stand (gap_lines gap) (Sync ∷ []) gap sync_bytes (gap_stands gap g) (one_stands Sync [] sync_bytes [] refl (tt, tt) none_stand) in
    both_stand (gap_and_sync_lines gap) (flat_map packet_lines ps) (gap ++ sync_bytes) (packet_bytes ps) first (packets_stand ps a)

-- the bytes of a gap before the sync word and packets
gap_bytes : (gap : List ℕ) (ps : List Packet) → AreBytes (gap ++ sync_bytes ++ packet_bytes ps) → AreBytes gap
gap_bytes gap ps b = all_prefix (λ x. x < 256) gap sync_bytes (all_prefix (λ x. x < 256) (gap ++ sync_bytes) (packet_bytes ps) b)

ended_session : (s : EndedSession) → AreBytes (session_bytes s) → AreWords (flat_map words s.packets) → Stands (session_lines s) (session_bytes s)
ended_session s b a = session_stands s.gap s.packets (gap_bytes s.gap s.packets b) a

sessions_stand : (ss : List EndedSession) → AreBytes (flat_map session_bytes ss) → AllByRecursion IsEndedSession ss → Stands (flat_map session_lines ss) (flat_map session_bytes ss)
sessions_stand [] b a = none_stand
sessions_stand (s ∷ ss) b a =
    both_stand (session_lines s) (flat_map session_lines ss) (session_bytes s) (flat_map session_bytes ss) (ended_session s (all_prefix (λ x. x < 256) (session_bytes s) (flat_map session_bytes ss) b) (each_fits None s.packets a.0.packets))
    (sessions_stand ss (all_back (λ x. x < 256) (session_bytes s) (flat_map session_bytes ss) b) a.1)

place_stands : (p : Place) → AreBytes (place_bytes p) → IsPlace p → Stands (place_lines p) (place_bytes p)
place_stands (Searching gap) b i = gap_stands gap b
place_stands (Synced gap ps tail) b i =
    let first : List ℕ = gap ++ sync_bytes ++ packet_bytes ps in
    both_stand (packets_lines gap ps) (gap_lines tail) first tail
    (session_stands gap ps (gap_bytes gap ps (all_prefix (λ x. x < 256) first tail b)) (each_fits None ps i.1))
    (gap_stands tail (all_back (λ x. x < 256) first tail b))

pub reading_stands : (bytes : List ℕ) (ss : List EndedSession) (p : Place) → IsReading bytes ss p → Stands (flat_map session_lines ss ++ place_lines p) bytes
reading_stands bytes ss p r =
    let b : AreBytes (flat_map session_bytes ss ++ place_bytes p) = subst (λ t. AreBytes t) r.joined r.fits in
    stands_for (flat_map session_lines ss ++ place_lines p) (flat_map session_bytes ss ++ place_bytes p) bytes (sym r.joined)
    (both_stand (flat_map session_lines ss) (place_lines p) (flat_map session_bytes ss) (place_bytes p)
    (sessions_stand ss (all_prefix (λ x. x < 256) (flat_map session_bytes ss) (place_bytes p) b) r.each)
    (place_stands p (all_back (λ x. x < 256) (flat_map session_bytes ss) (place_bytes p) b) r.ends))

pub listing_stands : (bytes : List ℕ) → AreBytes bytes → Stands (listing_lines bytes) bytes
listing_stands bytes a = reading_stands bytes (reading_of bytes).sessions (reading_of bytes).place (reading_is_found bytes a)

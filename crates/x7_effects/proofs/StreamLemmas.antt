-- The reading and the history of what a planner writes.
use Rattle.std.proofs.Common.{◌≡◌, ℕ, zero, suc, ◌+◌, ◌*◌, ◌<◌, false, List, [], ◌∷◌, ◌++◌, Option, None, length, replicate, refl, ap, sym, ◌∙◌, append_assoc, append-nil, arith, length-append}
use Rattle.std.proofs.lemmas.Grind.{flat_map-append}
use Rattle.std.specs.List.{flat_map}
use Rattle.x7_words.specs.Word.{AreBytes, bytes_of_word}
use Rattle.x7_words.proofs.ListLemmas.{all_append}
use Rattle.x7_packets.specs.SyncWord.{sync_bytes}
use Rattle.x7_packets.specs.PacketWords.{no_op, sync_word, type1_write_header}
use Rattle.x7_packets.specs.declared.header.Step.TheVariants as step
use Rattle.x7_packets.specs.Packet.{Packet, IsPacket, words, stepped, latest_of}
use Rattle.x7_packets.specs.Machine.{AllWhole}
use Rattle.x7_packets.specs.Reading.{Searching, Synced, EndedSession, IsReading, IsEndedSession, packet_bytes, is_synced}
use Rattle.x7_packets.specs.ByHand.{reading_of}
use Rattle.x7_packets.specs.History as access
use Rattle.x7_packets.specs.History.{History, entry, entered_all, history_of}
use Rattle.x7_packets.proofs.PacketLemmas.{each_more, ended_more}
use Rattle.x7_packets.proofs.ByHandLemmas.{reading_is}
use Rattle.x7_packets.proofs.HistoryLemmas.{entered_all_append, history_is}
use Rattle.x7_packets.specs.Appended.{LacksFirst, MayFollow, moved}
use Rattle.x7_effects.proofs.Items.{Item, Noop, Dummy, Write, WriteLong, Read, ReadLong, item_words, items_words, AreItems, writes_entered, item_entered, items_entered, desync, bytes_of_words, opened, closed, MayLead, bus_width_head}
use Rattle.x7_packets.proofs.SeamLemmas.{none_without_first, first_without}
use Rattle.x7_packets.proofs.AppendedLemmas.{history_after, ends_after}
use Rattle.x7_effects.proofs.ItemLemmas.{packet, items_packets, items_whole, each_of_whole, whole_goes_on, items_same, items_enter, length_stepped, write_means}

pub bytes_fit : (ws : List ℕ) → AreBytes (bytes_of_words ws)
bytes_fit [] = tt
bytes_fit (w ∷ ws) = (omega arith, (omega arith, (omega arith, (omega arith, bytes_fit ws))))

pub bytes_count : (ws : List ℕ) → length (bytes_of_words ws) ≡ 4 * length ws
bytes_count [] = refl
bytes_count (w ∷ ws) = omega (arith, bytes_count ws)

noops_lack : (k : ℕ) → LacksFirst (bytes_of_words (replicate k no_op))
noops_lack zero = tt
noops_lack (suc k) = (refl, (refl, (refl, (refl, noops_lack k))))

opened_bytes : (leading : List ℕ) (items : List Item) → bytes_of_words (opened leading items) ≡ bytes_of_words leading ++ (sync_bytes ++ bytes_of_words (items_words items))
opened_bytes leading items = flat_map-append bytes_of_word leading (sync_word ∷ items_words items)

-- the reading of items that go on
pub opened_reading : (leading : List ℕ) (items : List Item) → MayLead leading → AreItems items → IsReading (bytes_of_words (opened leading items)) [] (Synced (bytes_of_words leading) (items_packets items) [])
opened_reading leading items m f =
    let gap : List ℕ = bytes_of_words leading in
    let regrouped : gap ++ (sync_bytes ++ packet_bytes (items_packets items)) ≡ gap ++ sync_bytes ++ packet_bytes (items_packets items) ++ [] = sym (append_assoc gap sync_bytes (packet_bytes (items_packets items))) ∙ sym (append-nil (gap ++ sync_bytes ++ packet_bytes (items_packets items))) in
    let whole : AllWhole None (items_packets items) = items_whole None items f in
    record {
      fits = bytes_fit (opened leading items);
      joined = opened_bytes leading items ∙ ap (λ t. gap ++ (sync_bytes ++ bytes_of_words t)) (sym (items_same items)) ∙ regrouped;
      each = tt;
      ends = (first_without gap m.lacks, each_of_whole None (items_packets items) whole, whole_goes_on None (items_packets items) whole, omega arith);
    }

pub opened_history : (leading : List ℕ) (items : List Item) → MayLead leading → AreItems items → history_of (bytes_of_words (opened leading items)) ≡ items_entered (4 * length leading + 4) items []
opened_history leading items m f =
    sym (history_is (bytes_of_words (opened leading items)) [] (Synced (bytes_of_words leading) (items_packets items) []) (opened_reading leading items m f))
    ∙ ap (λ (x : ℕ). entered_all x (flat_map stepped (items_packets items)) []) (omega (arith, bytes_count leading))
    ∙ items_enter (4 * length leading + 4) items [] f

is_last : (l : Option ℕ) → IsPacket l (packet (type1_write_header 4 1) (step.Open 4 1) (13 ∷ []))
is_last l = record { fits = (omega arith, (omega arith, tt)); means = sym (write_means l 4 1 (omega arith) (omega arith)); most = omega arith; goes_on = tt }

-- the session of items that DESYNC ends
abbrev pub session_of : List ℕ → List Item → EndedSession
session_of leading items = record { gap = bytes_of_words leading; packets = items_packets items ++ packet (type1_write_header 4 1) (step.Open 4 1) (13 ∷ []) ∷ [] }

is_session : (leading : List ℕ) (items : List Item) → MayLead leading → AreItems items → IsEndedSession (session_of leading items)
is_session leading items m f = record {
  first = first_without (bytes_of_words leading) m.lacks;
  packets = each_more None (items_packets items) (packet (type1_write_header 4 1) (step.Open 4 1) (13 ∷ [])) (items_whole None items f) (is_last (latest_of None (items_packets items)));
  ended = ended_more (items_packets items) (packet (type1_write_header 4 1) (step.Open 4 1) (13 ∷ []));
}

session_words : (items : List Item) → items_words (items ++ desync ∷ []) ≡ flat_map words (items_packets items ++ packet (type1_write_header 4 1) (step.Open 4 1) (13 ∷ []) ∷ [])
session_words items =
    flat_map-append item_words items (desync ∷ [])
    ∙ ap (λ t. t ++ item_words desync) (sym (items_same items))
    ∙ sym (flat_map-append words (items_packets items) (packet (type1_write_header 4 1) (step.Open 4 1) (13 ∷ []) ∷ []))

pub closed_reading : (leading : List ℕ) (items : List Item) (k : ℕ) → MayLead leading → AreItems items
    → IsReading (bytes_of_words (closed leading items k)) (session_of leading items ∷ []) (Searching (bytes_of_words (replicate k no_op)))
closed_reading leading items k m f =
    let gap : List ℕ = bytes_of_words leading in
    let rest : List ℕ = bytes_of_words (replicate k no_op) in
    let ps : List Packet = items_packets items ++ packet (type1_write_header 4 1) (step.Open 4 1) (13 ∷ []) ∷ [] in
    let regrouped : (gap ++ (sync_bytes ++ packet_bytes ps)) ++ rest ≡ ((gap ++ sync_bytes ++ packet_bytes ps) ++ []) ++ rest = simp (append_assoc, append-nil) in
    record {
      fits = bytes_fit (closed leading items k);
      joined = flat_map-append bytes_of_word (opened leading (items ++ desync ∷ [])) (replicate k no_op)
          ∙ ap (λ t. t ++ rest) (opened_bytes leading (items ++ desync ∷ []))
          ∙ ap (λ t. (gap ++ (sync_bytes ++ bytes_of_words t)) ++ rest) (session_words items)
          ∙ regrouped;
      each = (is_session leading items m f, tt);
      ends = none_without_first rest (noops_lack k);
    }

pub items_entered_append : (n : ℕ) (xs ys : List Item) (h : History) → items_entered n (xs ++ ys) h ≡ items_entered (n + 4 * length (items_words xs)) ys (items_entered n xs h)
items_entered_append n [] ys h = ap (λ (x : ℕ). items_entered x ys h) (omega arith)
items_entered_append n (i ∷ xs) ys h =
    items_entered_append (n + 4 * length (item_words i)) xs ys (item_entered n i h)
    ∙ ap (λ (x : ℕ). items_entered x ys (items_entered (n + 4 * length (item_words i)) xs (item_entered n i h))) (omega (arith, length-append (item_words i) (items_words xs)))

pub closed_history : (leading : List ℕ) (items : List Item) (k : ℕ) → MayLead leading → AreItems items → history_of (bytes_of_words (closed leading items k)) ≡ items_entered (4 * length leading + 4) (items ++ desync ∷ []) []
closed_history leading items k m f =
    let n : ℕ = 4 * length leading + 4 in
    let ps : List Packet = items_packets items in
    let d : Packet = packet (type1_write_header 4 1) (step.Open 4 1) (13 ∷ []) in
    sym (history_is (bytes_of_words (closed leading items k)) (session_of leading items ∷ []) (Searching (bytes_of_words (replicate k no_op))) (closed_reading leading items k m f))
    ∙ ap (λ (x : ℕ). entered_all x (flat_map stepped (ps ++ d ∷ [])) []) (omega (arith, bytes_count leading))
    ∙ ap (λ t. entered_all n t []) (flat_map-append stepped ps (d ∷ []))
    ∙ entered_all_append n (flat_map stepped ps) (stepped d) []
    ∙ ap (λ (t : History). entered_all (n + 4 * length (flat_map stepped ps)) (stepped d) t) (items_enter n items [] f)
    ∙ ap (λ (x : ℕ). entered_all x (stepped d) (items_entered n items [])) (omega (arith, length_stepped ps, ap length (items_same items)))
    ∙ sym (items_entered_append n items (desync ∷ []) [])

pub closed_place : (leading : List ℕ) (items : List Item) (k : ℕ) → MayLead leading → AreItems items → (reading_of (bytes_of_words (closed leading items k))).place ≡ Searching (bytes_of_words (replicate k no_op))
closed_place leading items k m f =
    let is : (session_of leading items ∷ [] ≡ (reading_of (bytes_of_words (closed leading items k))).sessions) × (Searching (bytes_of_words (replicate k no_op)) ≡ (reading_of (bytes_of_words (closed leading items k))).place) =
    reading_is (bytes_of_words (closed leading items k)) (session_of leading items ∷ []) (Searching (bytes_of_words (replicate k no_op))) (closed_reading leading items k m f) in
    sym is.1

-- words and items after n other bytes enter as they do alone, n bytes later
writes_moved : (n place k r : ℕ) (ws : List ℕ) (h g : History) → k ≡ n + place → writes_entered k r ws (moved n h ++ g) ≡ moved n (writes_entered place r ws h) ++ g
writes_moved n place k r [] h g e = refl
writes_moved n place k r (w ∷ ws) h g e =
    ap (λ (x : ℕ). writes_entered (k + 4) r ws (entry (access.Write r w) x ∷ (moved n h ++ g))) (omega arith)
    ∙ writes_moved n (place + 4) (k + 4) r ws (entry (access.Write r w) (place + 4) ∷ h) g (omega arith)

item_moved : (n place k : ℕ) (i : Item) (h g : History) → k ≡ n + place → item_entered k i (moved n h ++ g) ≡ moved n (item_entered place i h) ++ g
item_moved n place k Noop h g e = refl
item_moved n place k Dummy h g e = refl
item_moved n place k (Write r ws) h g e = writes_moved n (place + 4) (k + 4) r ws h g (omega arith)
item_moved n place k (WriteLong r ws) h g e = writes_moved n (place + 8) (k + 8) r ws h g (omega arith)
item_moved n place k (Read r c) h g e = ap (λ (x : ℕ). entry (access.Read r c) x ∷ (moved n h ++ g)) (omega arith)
item_moved n place k (ReadLong r c) h g e = ap (λ (x : ℕ). entry (access.Read r c) x ∷ (moved n h ++ g)) (omega arith)

pub items_moved : (n place k : ℕ) (items : List Item) (h g : History) → k ≡ n + place → items_entered k items (moved n h ++ g) ≡ moved n (items_entered place items h) ++ g
items_moved n place k [] h g e = refl
items_moved n place k (i ∷ items) h g e =
    ap (λ (t : History). items_entered (k + 4 * length (item_words i)) items t) (item_moved n place k i h g e)
    ∙ items_moved n (place + 4 * length (item_words i)) (k + 4 * length (item_words i)) items (item_entered place i h) g (omega arith)

-- what is written after bytes that end searching enters after their history
pub appended_history : (bytes leading : List ℕ) (items : List Item) (k : ℕ) → AreBytes bytes → MayFollow (reading_of bytes).place (bytes_of_words (closed leading items k)) → MayLead leading → AreItems items
    → history_of (bytes ++ bytes_of_words (closed leading items k)) ≡ items_entered (length bytes + 4 * length leading + 4) (items ++ desync ∷ []) (history_of bytes)
appended_history bytes leading items k b e m f =
    history_after bytes (bytes_of_words (closed leading items k)) (all_append (λ x. x < 256) bytes (bytes_of_words (closed leading items k)) b (bytes_fit (closed leading items k))) e
    ∙ ap (λ (t : History). moved (length bytes) t ++ history_of bytes) (closed_history leading items k m f)
    ∙ sym (items_moved (length bytes) (4 * length leading + 4) (length bytes + 4 * length leading + 4) (items ++ desync ∷ []) [] (history_of bytes) (omega arith))

pub appended_ends : (bytes leading : List ℕ) (items : List Item) (k : ℕ) → AreBytes bytes → MayFollow (reading_of bytes).place (bytes_of_words (closed leading items k)) → MayLead leading → AreItems items
    → is_synced (reading_of (bytes ++ bytes_of_words (closed leading items k))).place ≡ false
appended_ends bytes leading items k b e m f =
    ends_after bytes (bytes_of_words (closed leading items k)) (all_append (λ x. x < 256) bytes (bytes_of_words (closed leading items k)) b (bytes_fit (closed leading items k))) e
    ∙ ap is_synced (closed_place leading items k m f)

pub head_leads : MayLead bus_width_head
head_leads = record { fits = (omega arith, (omega arith, (omega arith, (omega arith, (omega arith, (omega arith, (omega arith, (omega arith, tt)))))))); lacks = (refl, (refl, (refl, (refl, (refl, (refl, (refl, (refl, (refl, (refl, (refl, (refl, (refl, (refl, (refl, (refl, (refl, (refl, (refl, (refl, (refl, (refl, (refl, (refl, (refl, (refl, (refl, (refl, (refl, (refl, (refl, (refl, tt)))))))))))))))))))))))))))))))) }

-- ---- a value with a step on plain values, over items

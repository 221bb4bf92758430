-- The packets of items, and their accesses.
use Rattle.std.proofs.Common.{◌≡◌, ℕ, ◌+◌, ◌*◌, ◌^◌, ◌<◌, ◌==◌, false, List, [], ◌∷◌, ◌++◌, Option, Some, length, refl, ap, sym, ◌∙◌, append-nil, arith, length-append}
use Rattle.std.proofs.lemmas.Bool.Decides.{nat_tests}
use Rattle.std.proofs.lemmas.Grind.{flat_map-append}
use Rattle.std.specs.List.{flat_map}
use Rattle.x7_words.specs.Word.{AreWords}
use Rattle.x7_packets.specs.PacketWords.{no_op, type1_read_header, type1_write_header, type2_read_header, type2_write_header}
use Rattle.x7_packets.specs.declared.header.Step.{Step}
use Rattle.x7_packets.specs.declared.header.Step.TheVariants as step
use Rattle.x7_packets.specs.Packet.{Packet, EachPacket, IsPacket, IsWhole, NoneEnds, OnlyLastMayEnd, latest_after, count_of, register_named_by, words, payload_steps, stepped, meaning, ended, last_ends}
use Rattle.x7_packets.specs.Machine.{AllWhole}
use Rattle.x7_packets.specs.History as access
use Rattle.x7_packets.specs.History.{History, entry, entered, entered_all}
use Rattle.x7_packets.proofs.HistoryLemmas.{entered_all_append}
use Rattle.x7_effects.proofs.Items.{Item, Noop, Dummy, Write, WriteLong, Read, ReadLong, item_words, items_words, IsItem, AreItems, writes_entered, item_entered, items_entered}

-- what header words mean
pub write_means : (latest : Option ℕ) (r n : ℕ) → r < 2 ^ 5 → n < 2 ^ 11 → meaning latest (type1_write_header r n) ≡ step.Open r n
write_means latest r n f g = grind (arith, nat_tests)

pub read_means : (latest : Option ℕ) (r n : ℕ) → r < 2 ^ 5 → n < 2 ^ 11 → meaning latest (type1_read_header r n) ≡ step.Read r n
read_means latest r n f g = grind (arith, nat_tests)

pub long_write_means : (r n : ℕ) → n < 2 ^ 27 → meaning (Some r) (type2_write_header n) ≡ step.Open r n
long_write_means r n g = grind (arith, nat_tests)

pub long_read_means : (r n : ℕ) → n < 2 ^ 27 → meaning (Some r) (type2_read_header n) ≡ step.Read r n
long_read_means r n g = grind (arith, nat_tests)

-- a packet by its header word, what this means, and its payload
abbrev pub packet : ℕ → Step → List ℕ → Packet
packet head s payload = record { head = head; step = s; payload = payload }

abbrev pub item_packets : Item → List Packet
item_packets Noop = packet no_op step.Nop [] ∷ []
item_packets Dummy = packet 0xFFFFFFFF step.Filler [] ∷ []
item_packets (Write r ws) = packet (type1_write_header r (length ws)) (step.Open r (length ws)) ws ∷ []
item_packets (WriteLong r ws) = packet (type1_write_header r 0) (step.Open r 0) [] ∷ packet (type2_write_header (length ws)) (step.Open r (length ws)) ws ∷ []
item_packets (Read r n) = packet (type1_read_header r n) (step.Read r n) [] ∷ []
item_packets (ReadLong r n) = packet (type1_read_header r 0) (step.Read r 0) [] ∷ packet (type2_read_header n) (step.Read r n) [] ∷ []

abbrev pub items_packets : List Item → List Packet
items_packets items = flat_map item_packets items

only_of_none : (r : ℕ) (ws : List ℕ) → NoneEnds r ws → OnlyLastMayEnd r ws
only_of_none r [] n = tt
only_of_none r (w ∷ []) n = tt
only_of_none r (w ∷ x ∷ ws) n = (n.0, only_of_none r (x ∷ ws) n.1)

-- a header word without a payload is a packet
bare : (l : Option ℕ) (w : ℕ) (s : Step) → w < 2 ^ 32 → s ≡ meaning l w → IsPacket l (packet w s [])
bare l w s f e = record { fits = (f, tt); means = e; most = omega arith; goes_on = tt }

bare_whole : (w : ℕ) (s : Step) → count_of s ≡ 0 → IsWhole (packet w s [])
bare_whole w s e = record { all = sym e; none_ends = tt }

-- a header word with its whole payload is a packet
full : (l : Option ℕ) (w r : ℕ) (ws : List ℕ) → w < 2 ^ 32 → step.Open r (length ws) ≡ meaning l w → AreWords ws → NoneEnds r ws → IsPacket l (packet w (step.Open r (length ws)) ws)
full l w r ws f e a n = record { fits = (f, a); means = e; most = omega arith; goes_on = only_of_none r ws n }

full_whole : (w r : ℕ) (ws : List ℕ) → NoneEnds r ws → IsWhole (packet w (step.Open r (length ws)) ws)
full_whole w r ws n = record { all = refl; none_ends = n }

-- the packets of an item are whole, whatever came before
item_whole : (l : Option ℕ) (i : Item) → IsItem i → AllWhole l (item_packets i)
item_whole l Noop f = (bare l no_op step.Nop (omega arith) refl, bare_whole no_op step.Nop refl, tt)
item_whole l Dummy f = (bare l 0xFFFFFFFF step.Filler (omega arith) refl, bare_whole 0xFFFFFFFF step.Filler refl, tt)
item_whole l (Write r ws) f = (full l (type1_write_header r (length ws)) r ws (omega (arith, f.0, f.1)) (sym (write_means l r (length ws) f.0 f.1)) f.2 f.3, full_whole (type1_write_header r (length ws)) r ws f.3, tt)
item_whole l (WriteLong r ws) f = (
  bare l (type1_write_header r 0) (step.Open r 0) (omega (arith, f.0)) (sym (write_means l r 0 f.0 (omega arith))),
  bare_whole (type1_write_header r 0) (step.Open r 0) refl,
  (full (Some r) (type2_write_header (length ws)) r ws (omega (arith, f.1)) (sym (long_write_means r (length ws) f.1)) f.2 f.3, full_whole (type2_write_header (length ws)) r ws f.3, tt),
)
item_whole l (Read r n) f = (bare l (type1_read_header r n) (step.Read r n) (omega (arith, f.0, f.2)) (sym (read_means l r n f.0 f.2)), bare_whole (type1_read_header r n) (step.Read r n) refl, tt)
item_whole l (ReadLong r n) f = (
  bare l (type1_read_header r 0) (step.Read r 0) (omega (arith, f.0)) (sym (read_means l r 0 f.0 (omega arith))),
  bare_whole (type1_read_header r 0) (step.Read r 0) refl,
  (bare (Some r) (type2_read_header n) (step.Read r n) (omega (arith, f.2)) (sym (long_read_means r n f.2)), bare_whole (type2_read_header n) (step.Read r n) refl, tt),
)

whole_append : (l : Option ℕ) (ps qs : List Packet) → AllWhole l ps → ((k : Option ℕ) → AllWhole k qs) → AllWhole l (ps ++ qs)
whole_append l [] qs a b = b l
whole_append l (p ∷ ps) qs a b = (a.0, a.1, whole_append (latest_after l p.step) ps qs a.2 b)

pub items_whole : (l : Option ℕ) (items : List Item) → AreItems items → AllWhole l (items_packets items)
items_whole l [] f = tt
items_whole l (i ∷ items) f = whole_append l (item_packets i) (items_packets items) (item_whole l i f.0) (λ k. items_whole k items f.1)

-- whole packets are packets that do not end the session
pub each_of_whole : (l : Option ℕ) (ps : List Packet) → AllWhole l ps → EachPacket l ps
each_of_whole l [] a = tt
each_of_whole l (p ∷ []) a = a.0
each_of_whole l (p ∷ q ∷ ps) a = (a.0, a.1, each_of_whole (latest_after l p.step) (q ∷ ps) a.2)

none_last : (r : ℕ) (ws : List ℕ) → NoneEnds r ws → last_ends r ws ≡ false
none_last r [] n = refl
none_last r (w ∷ []) n = n.0
none_last r (w ∷ x ∷ ws) n = none_last r (x ∷ ws) n.1

pub whole_goes_on : (l : Option ℕ) (ps : List Packet) → AllWhole l ps → ended ps ≡ false
whole_goes_on l [] a = refl
whole_goes_on l (p ∷ []) a = none_last (register_named_by p.step) p.payload a.1.none_ends
whole_goes_on l (p ∷ q ∷ ps) a = whole_goes_on (latest_after l p.step) (q ∷ ps) a.2

-- the words of the packets are those of the items
pub item_same : (i : Item) → flat_map words (item_packets i) ≡ item_words i
item_same Noop = refl
item_same Dummy = refl
item_same (Write r ws) = ap (λ t. type1_write_header r (length ws) ∷ t) (append-nil ws)
item_same (WriteLong r ws) = ap (λ t. type1_write_header r 0 ∷ type2_write_header (length ws) ∷ t) (append-nil ws)
item_same (Read r n) = refl
item_same (ReadLong r n) = refl

pub items_same : (items : List Item) → flat_map words (items_packets items) ≡ items_words items
items_same [] = refl
items_same (i ∷ items) = flat_map-append words (item_packets i) (items_packets items) ∙ ap (λ t. t ++ flat_map words (items_packets items)) (item_same i) ∙ ap (λ t. item_words i ++ t) (items_same items)

-- words written enter as the payload that they are
pub payload_enters : (place r : ℕ) (ws : List ℕ) (h : History) → entered_all place (payload_steps r ws) h ≡ writes_entered place r ws h
payload_enters place r [] h = refl
payload_enters place r (w ∷ ws) h = payload_enters (place + 4) r ws (entry (access.Write r w) (place + 4) ∷ h)

some_read : (place r n : ℕ) (h : History) → 0 < n → entered place (step.Read r n) h ≡ entry (access.Read r n) place ∷ h
some_read place r n h f = let no : (n == 0) ≡ false = grind (arith, nat_tests) in rw no refl

pub item_enters : (place : ℕ) (i : Item) (h : History) → IsItem i → entered_all place (flat_map stepped (item_packets i)) h ≡ item_entered place i h
item_enters place Noop h f = refl
item_enters place Dummy h f = refl
item_enters place (Write r ws) h f = ap (λ t. entered_all (place + 4) t h) (append-nil (payload_steps r ws)) ∙ payload_enters (place + 4) r ws h
item_enters place (WriteLong r ws) h f =
    ap (λ t. entered_all (place + 4 + 4) t h) (append-nil (payload_steps r ws)) ∙ payload_enters (place + 4 + 4) r ws h
    ∙ ap (λ (x : ℕ). writes_entered x r ws h) (omega arith)
item_enters place (Read r n) h f = some_read (place + 4) r n h f.1
item_enters place (ReadLong r n) h f = some_read (place + 4 + 4) r n h f.1 ∙ ap (λ (x : ℕ). entry (access.Read r n) x ∷ h) (omega arith)

pub length_stepped : (ps : List Packet) → length (flat_map stepped ps) ≡ length (flat_map words ps)
length_stepped [] = refl
length_stepped (p ∷ ps) = omega (arith, length_stepped ps, length-append (stepped p) (flat_map stepped ps), length-append (words p) (flat_map words ps), length_payload (register_named_by p.step) p.payload)
  where
    length_payload : (r : ℕ) (ws : List ℕ) → length (payload_steps r ws) ≡ length ws
    length_payload r [] = refl
    length_payload r (w ∷ ws) = omega (arith, length_payload r ws)

-- the accesses of the packets are those of the items
pub items_enter : (place : ℕ) (items : List Item) (h : History) → AreItems items → entered_all place (flat_map stepped (items_packets items)) h ≡ items_entered place items h
items_enter place [] h f = refl
items_enter place (i ∷ items) h f =
    ap (λ t. entered_all place t h) (flat_map-append stepped (item_packets i) (items_packets items))
    ∙ entered_all_append place (flat_map stepped (item_packets i)) (flat_map stepped (items_packets items)) h
    ∙ ap (λ (x : ℕ). entered_all x (flat_map stepped (items_packets items)) (entered_all place (flat_map stepped (item_packets i)) h)) (omega (arith, length_stepped (item_packets i), ap length (item_same i)))
    ∙ ap (λ (t : History). entered_all (place + 4 * length (item_words i)) (flat_map stepped (items_packets items)) t) (item_enters place i h f.0)
    ∙ items_enter (place + 4 * length (item_words i)) items (item_entered place i h) f.1

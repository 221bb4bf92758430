-- The accesses of a reading have registers of five bits, words of 32 and counts of 27.
use Rattle.std.proofs.Common.{ℕ, ◌+◌, ◌^◌, ◌<◌, ◌==◌, ◌||◌, Bool, true, false, if◌then◌else◌, List, [], ◌∷◌, Option, None, Some, length, arith}
use Rattle.std.specs.List.{flat_map, AllByRecursion}
use Rattle.x7_words.specs.Word.{AreWords}
use Rattle.x7_words.proofs.ListLemmas.{all_append}
use Rattle.x7_packets.specs.declared.header.Step.{Step}
use Rattle.x7_packets.specs.declared.header.Step.TheVariants.{Filler, Nop, Open, Payload, Read, Bad}
use Rattle.x7_packets.specs.Packet.{Packet, EachPacket, IsPacket, header_kind_of, register_of, type2_meaning, meaning, register_named_by, payload_steps, stepped, latest_after, packet_type_of, type1_count_of, type2_count_of}
use Rattle.x7_packets.specs.Reading.{Place, Searching, Synced, EndedSession, IsReading, IsEndedSession, IsPlace, session_bytes}
use Rattle.x7_packets.specs.History as access
use Rattle.x7_packets.specs.History.{History, AllFit, entry, entered, entered_all, entered_sessions, entered_place, history}
use Rattle.x7_regs.specs.Register.{reg_number_count}
use Rattle.x7_packets.specs.PacketWords.{type2_count_bound, sync_word, dummy_word, no_op_kind, type1_write_kind, type1_read_kind, type2_write_kind, type2_read_kind}

-- the step can come of words of 32 bits
abbrev FitsStep : Step → Type 0
FitsStep (Open register count) = register < reg_number_count
FitsStep (Payload register w) = (register < reg_number_count) × (w < 2 ^ 32)
FitsStep (Read register count) = (register < reg_number_count) × (count < type2_count_bound)
FitsStep (Bad w) = w < 2 ^ 32
FitsStep _ = Unit {0}

abbrev FitsLatest : Option ℕ → Type 0
FitsLatest None = Unit {0}
FitsLatest (Some register) = register < reg_number_count

abbrev AllSteps : List (ℕ × Step) → Type 0
AllSteps = AllByRecursion (λ (s : ℕ × Step). FitsStep s.1)

by_test : (b : Bool) (s t : Step) → FitsStep s → FitsStep t → FitsStep (if b then s else t)
by_test true s t f g = f
by_test false s t f g = g

long_fits : (latest : Option ℕ) (w : ℕ) → w < 2 ^ 32 → FitsLatest latest → FitsStep (type2_meaning latest w)
long_fits None w f l = f
long_fits (Some register) w f l =
    by_test (header_kind_of w == type2_write_kind) (Open register (type2_count_of w)) _ l
    (by_test (header_kind_of w == type2_read_kind) (Read register (type2_count_of w)) (Bad w) (l, omega arith) f)

meaning_fits : (latest : Option ℕ) (w : ℕ) → w < 2 ^ 32 → FitsLatest latest → FitsStep (meaning latest w)
meaning_fits latest w f l =
    by_test (w == sync_word || w == dummy_word || packet_type_of w == 0) Filler _ tt
    (by_test (header_kind_of w == no_op_kind) Nop _ tt
    (by_test (header_kind_of w == type1_write_kind) (Open (register_of w) (type1_count_of w)) _ (omega arith)
    (by_test (header_kind_of w == type1_read_kind) (Read (register_of w) (type1_count_of w)) _ (omega arith, omega arith) (long_fits latest w f l))))

latest_fits : (latest : Option ℕ) (s : Step) → FitsLatest latest → FitsStep s → FitsLatest (latest_after latest s)
latest_fits latest (Open register count) l f = f
latest_fits latest (Payload register w) l f = l
latest_fits latest (Read register count) l f = f.0
latest_fits latest (Bad w) l f = l
latest_fits latest Filler l f = l
latest_fits latest Nop l f = l

payload_fits : (register : ℕ) (ws : List ℕ) → register < reg_number_count → AreWords ws → AllSteps (payload_steps register ws)
payload_fits register [] r f = tt
payload_fits register (w ∷ ws) r f = ((r, f.0), payload_fits register ws r f.1)

named_fits : (s : Step) → FitsStep s → register_named_by s < reg_number_count
named_fits (Open register count) f = f
named_fits (Payload register w) f = omega arith
named_fits (Read register count) f = f.0
named_fits (Bad w) f = omega arith
named_fits Filler f = omega arith
named_fits Nop f = omega arith

packet_step_fits : (latest : Option ℕ) (p : Packet) → FitsLatest latest → IsPacket latest p → FitsStep p.step
packet_step_fits latest p l i = rw i.means (meaning_fits latest p.head i.fits.0 l)

packet_fits : (latest : Option ℕ) (p : Packet) → FitsLatest latest → IsPacket latest p → AllSteps (stepped p)
packet_fits latest p l i = (packet_step_fits latest p l i, payload_fits (register_named_by p.step) p.payload (named_fits p.step (packet_step_fits latest p l i)) i.fits.1)

packets_fit : (latest : Option ℕ) (ps : List Packet) → FitsLatest latest → EachPacket latest ps → AllSteps (flat_map stepped ps)
packets_fit latest [] l a = tt
packets_fit latest (p ∷ []) l a = all_append (λ (s : ℕ × Step). FitsStep s.1) (stepped p) [] (packet_fits latest p l a) tt
packets_fit latest (p ∷ q ∷ ps) l a =
    all_append (λ (s : ℕ × Step). FitsStep s.1) (stepped p) (flat_map stepped (q ∷ ps)) (packet_fits latest p l a.0)
    (packets_fit (latest_after latest p.step) (q ∷ ps) (latest_fits latest p.step l (packet_step_fits latest p l a.0)) a.2)

entered_fits : (place : ℕ) (s : Step) (h : History) → FitsStep s → AllFit h → AllFit (entered place s h)
entered_fits place (Open register count) h f a = a
entered_fits place (Payload register w) h f a = (f, a)
entered_fits place (Read register count) h f a = by_count (count == 0)
  where
    by_count : (b : Bool) → AllFit (if b then h else entry (access.Read register count) place ∷ h)
    by_count true = a
    by_count false = (f, a)
entered_fits place (Bad w) h f a = (f, a)
entered_fits place Filler h f a = a
entered_fits place Nop h f a = a

all_enter_fits : (place : ℕ) (ss : List (ℕ × Step)) (h : History) → AllSteps ss → AllFit h → AllFit (entered_all place ss h)
all_enter_fits place [] h f a = a
all_enter_fits place (s ∷ ss) h f a = all_enter_fits (place + 4) ss (entered (place + 4) s.1 h) f.1 (entered_fits (place + 4) s.1 h f.0 a)

sessions_fit : (place : ℕ) (ss : List EndedSession) (h : History) → AllByRecursion IsEndedSession ss → AllFit h → AllFit (entered_sessions place ss h)
sessions_fit place [] h i a = a
sessions_fit place (s ∷ ss) h i a = sessions_fit (place + length (session_bytes s)) ss _ i.1 (all_enter_fits (place + length s.gap + 4) (flat_map stepped s.packets) h (packets_fit None s.packets tt i.0.packets) a)

place_fits : (n : ℕ) (place : Place) (h : History) → IsPlace place → AllFit h → AllFit (entered_place n place h)
place_fits n (Searching gap) h i a = a
place_fits n (Synced gap packets tail) h i a = all_enter_fits (n + length gap + 4) (flat_map stepped packets) h (packets_fit None packets tt i.1) a

pub accesses_fit : (bytes : List ℕ) (sessions : List EndedSession) (place : Place) → IsReading bytes sessions place → AllFit (history sessions place)
accesses_fit bytes sessions place r = place_fits (length (flat_map session_bytes sessions)) place _ r.ends (sessions_fit 0 sessions [] r.each tt)

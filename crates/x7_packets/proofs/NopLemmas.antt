-- Lemmas on specs/Nops.
use Rattle.std.proofs.Common.{◌≡◌, ℕ, zero, suc, ◌+◌, ◌*◌, ◌/◌, ◌<◌, ◌≤◌, List, [], ◌∷◌, ◌++◌, inl, inr, length, map, take, replicate, get_or, refl, ap, sym, subst, ◌∙◌, append_assoc, append-nil, arith}
use Rattle.std.specs.List.{flat_map}
use Rattle.std.specs.Simd.{first_chunks}
use Rattle.std.proofs.lemmas.List.{get_or-map, length-take-le, replicate-append-replicate, take_more}
use Rattle.x7_words.specs.Word.{AreBytes, bytes_of_word, word_of_bytes, words_of_bytes}
use Rattle.x7_words.proofs.ListLemmas.{all_append, all_take}
use Rattle.x7_words.proofs.WordLemmas.{bytes_words, chunk_count, words_by_chunks, words_taken}
use Rattle.x7_packets.specs.SyncWord.{sync_bytes}
use Rattle.x7_packets.specs.declared.header.Step.TheVariants.{Nop}
use Rattle.x7_packets.specs.Mode.{Mode}
use Rattle.x7_packets.specs.Cutter.{AtPlace, CutterState, CutterStandsFor}
use Rattle.x7_packets.specs.History.{history}
use Rattle.x7_packets.specs.Nops.{IdlesThrough, equal_bytes, nop_bytes}
use Rattle.x7_packets.specs.PacketWords.{no_op}
use Rattle.x7_packets.specs.Packet.{Packet}
use Rattle.x7_packets.specs.Reading.{EndedSession, Place, Searching, Synced, packet_bytes, session_bytes}
use Rattle.x7_packets.specs.Machine.{HasTakenWords, MachineStandsFor, MachineState}
use Rattle.x7_packets.proofs.CutLemmas.{joined_more, packet_bytes_grown}
use Rattle.x7_packets.proofs.HistoryLemmas.{grown_goes_on}
use Rattle.x7_packets.proofs.TakeLemmas.{header_whole}

pub chunk_more : (bytes : List ℕ) (chunks : List (List ℕ)) (i w x : ℕ) → chunks ≡ first_chunks 4 (length bytes / 4) bytes → i < length chunks → w ≡ word_of_bytes (get_or chunks i []) → w ≡ x
    → take i (words_of_bytes bytes) ≡ replicate i x → take (i + 1) (words_of_bytes bytes) ≡ replicate (i + 1) x
chunk_more bytes chunks i w x e l f n s =
    let words : words_of_bytes bytes ≡ map word_of_bytes chunks = words_by_chunks (length bytes / 4) bytes refl ∙ ap (map word_of_bytes) (sym e) in
    let within : i < length (words_of_bytes bytes) = omega (arith, l, chunk_count bytes chunks e) in
    take_more (words_of_bytes bytes) i 0 within
    ∙ ap (λ (y : ℕ). take i (words_of_bytes bytes) ++ y ∷ []) (ap (λ t. get_or t i 0) words ∙ get_or-map word_of_bytes chunks i [] 0 l ∙ sym f ∙ n)
    ∙ ap (λ t. t ++ x ∷ []) s
    ∙ replicate-append-replicate i 1 x

-- ---- the first words of bytes, and their bytes

pub equal_taken : (k w : ℕ) (bytes : List ℕ) → AreBytes bytes → 4 * k ≤ length bytes → take k (words_of_bytes bytes) ≡ replicate k w → take (4 * k) bytes ≡ equal_bytes w k
equal_taken k w bytes fits l e =
    let prefix : List ℕ = take (4 * k) bytes in
    let count : length prefix ≡ 4 * k = length-take-le (4 * k) bytes l in
    sym (bytes_words prefix k (all_take (λ b. b < 256) (4 * k) bytes fits) count) ∙ ap (flat_map bytes_of_word) (words_taken k bytes l ∙ e)

-- ---- a machine in a header's place

pub nop_grows : (m : MachineState) (ps : List Packet) → m.due ≡ 0 → MachineStandsFor m ps → HasTakenWords ps ((no_op, Nop) ∷ []) m
nop_grows m ps none (inl a) = header_whole m m ps no_op Nop (omega arith) a refl refl refl none
nop_grows m ps none (inr a) = absurd (omega (arith, none, a.more))

-- ---- a cutter

record AfterNops (c : CutterState) (bytes : List ℕ) (sessions : List EndedSession) (gap : List ℕ) (packets : List Packet) : Type 0 where
  all : List Packet
  stands : CutterStandsFor c bytes sessions (Synced gap all [])
  nothing : history sessions (Synced gap all []) ≡ history sessions (Synced gap packets [])

one_nop : (c : CutterState) (bytes : List ℕ) (sessions : List EndedSession) (gap : List ℕ) (packets : List Packet) → c.mode ≡ Mode.Synced → c.machine.due ≡ 0
    → CutterStandsFor c bytes sessions (Synced gap packets []) → AfterNops c (bytes ++ bytes_of_word no_op) sessions gap packets
one_nop c bytes sessions gap packets synced none s =
    let word : List ℕ = bytes_of_word no_op in
    let h : MachineStandsFor c.machine packets × ([] ≡ c.kept) = rw synced at s.at in
    let g : HasTakenWords packets ((no_op, Nop) ∷ []) c.machine = nop_grows c.machine packets none h.0 in
    let fits : AreBytes word = (omega arith, (omega arith, (omega arith, (omega arith, tt)))) in
    let joined : bytes ++ word ≡ flat_map session_bytes sessions ++ (gap ++ sync_bytes ++ packet_bytes g.packets) =
    joined_more (flat_map session_bytes sessions) bytes gap [] word (packet_bytes g.packets) (packet_bytes packets) word s.reading.joined
    (packet_bytes_grown packets g.packets ((no_op, Nop) ∷ []) g.grown ∙ ap (λ t. packet_bytes packets ++ t) (append-nil word)) refl in
    record {
      all = g.packets;
      stands = record {
        reading = record {
          fits = all_append (λ b. b < 256) bytes word s.reading.fits fits;
          joined = joined ∙ ap (λ t. flat_map session_bytes sessions ++ t) (sym (append-nil (gap ++ sync_bytes ++ packet_bytes g.packets)));
          each = s.reading.each;
          ends = (s.reading.ends.0, g.each, g.end, omega arith);
        };
        at = rw synced (g.stands, h.1);
      };
      nothing = grown_goes_on gap [] packets g.packets ((no_op, Nop) ∷ []) sessions g.grown;
    }

all_nops : (k : ℕ) (c : CutterState) (bytes : List ℕ) (sessions : List EndedSession) (gap : List ℕ) (packets : List Packet) → c.mode ≡ Mode.Synced → c.machine.due ≡ 0
    → CutterStandsFor c bytes sessions (Synced gap packets []) → AfterNops c (bytes ++ nop_bytes k) sessions gap packets
all_nops zero c bytes sessions gap packets synced none s = record { all = packets; stands = subst (λ (b : List ℕ). CutterStandsFor c b sessions (Synced gap packets [])) (sym (append-nil bytes)) s; nothing = refl }
all_nops (suc k) c bytes sessions gap packets synced none s =
    let one : AfterNops c (bytes ++ bytes_of_word no_op) sessions gap packets = one_nop c bytes sessions gap packets synced none s in
    let more : AfterNops c ((bytes ++ bytes_of_word no_op) ++ nop_bytes k) sessions gap one.all = all_nops k c (bytes ++ bytes_of_word no_op) sessions gap one.all synced none one.stands in
    record {
      all = more.all;
      stands = subst (λ (b : List ℕ). CutterStandsFor c b sessions (Synced gap more.all [])) (append_assoc bytes (bytes_of_word no_op) (nop_bytes k)) more.stands;
      nothing = more.nothing ∙ one.nothing;
    }

pub idles_nops : (k : ℕ) (c : CutterState) (bytes : List ℕ) (sessions : List EndedSession) (place : Place) → c.mode ≡ Mode.Synced → c.kept ≡ [] → c.machine.due ≡ 0 → CutterStandsFor c bytes sessions place → IdlesThrough c (bytes ++ nop_bytes k) sessions place
idles_nops k c bytes sessions (Searching gap) synced empty none s = absurd (let h : AtPlace c Mode.Synced (Searching gap) = rw synced at s.at in h)
idles_nops k c bytes sessions (Synced gap packets tail) synced empty none s =
    let h : MachineStandsFor c.machine packets × (tail ≡ c.kept) = rw synced at s.at in
    let bare : tail ≡ [] = h.1 ∙ empty in
    let a : AfterNops c (bytes ++ nop_bytes k) sessions gap packets = all_nops k c bytes sessions gap packets synced none (subst (λ (t : List ℕ). CutterStandsFor c bytes sessions (Synced gap packets t)) bare s) in
    record { new_place = Synced gap a.all []; stands = a.stands; nothing = a.nothing ∙ ap (λ (t : List ℕ). history sessions (Synced gap packets t)) (sym bare) }

-- Lemmas on specs/Packet: lists of packets with one word more, and that words have one list of packets.
use Rattle.std.proofs.Common.{◌≡◌, ℕ, List, [], ◌∷◌, ◌++◌, Option, None, false, length, map, refl, ap, sym, ◌∙◌, subst, arith, length-append}
use Rattle.std.proofs.lemmas.List.{append_cancel_left, map-append}
use Rattle.std.proofs.lemmas.Grind.{common_steps}
use Rattle.std.specs.List.{flat_map}
use Rattle.x7_words.proofs.ListLemmas.{flat_map_last, same_prefix}
use Rattle.x7_packets.specs.declared.header.Step.{Step}
use Rattle.x7_packets.specs.declared.header.Step.TheVariants.{Payload}
use Rattle.x7_packets.specs.Packet.{Packet, HavePackets, EachPacket, IsPacket, IsWhole, OnlyLastMayEnd, NoneEnds, latest_of, latest_after, count_of, register_named_by, words, payload_steps, stepped, meaning, ends_session, ended, last_ends}
use Rattle.x7_packets.specs.Machine.{AllWhole, is_end}

pub whole_more : (l : Option ℕ) (ps : List Packet) (p : Packet) → AllWhole l ps → IsPacket (latest_of l ps) p → IsWhole p → AllWhole l (ps ++ p ∷ [])
whole_more l [] p a i w = (i, w, tt)
whole_more l (q ∷ ps) p a i w = (a.0, a.1, whole_more (latest_after l q.step) ps p a.2 i w)

pub each_more : (l : Option ℕ) (ps : List Packet) (p : Packet) → AllWhole l ps → IsPacket (latest_of l ps) p → EachPacket l (ps ++ p ∷ [])
each_more l [] p a i = i
each_more l (q ∷ []) p a i = (a.0, a.1, i)
each_more l (q ∷ r ∷ ps) p a i = (a.0, a.1, each_more (latest_after l q.step) (r ∷ ps) p a.2 i)

-- a packet more at the end of packets that are all whole
pub packet_more : (ws : List ℕ) (ps : List Packet) (p : Packet) → HavePackets ws ps → AllWhole None ps → IsPacket (latest_of None ps) p → HavePackets (ws ++ words p) (ps ++ p ∷ [])
packet_more ws ps p a w i = record { joined = ap (λ t. t ++ words p) a.joined ∙ sym (flat_map_last words ps p); each = each_more None ps p w i }

pub whole_after : (ps : List Packet) (p : Packet) → AllWhole None ps → IsPacket (latest_of None ps) p → IsWhole p → AllWhole None (ps ++ p ∷ [])
whole_after = whole_more None

pub latest_more : (l : Option ℕ) (ps : List Packet) (p : Packet) → latest_of l (ps ++ p ∷ []) ≡ latest_after (latest_of l ps) p.step
latest_more l [] p = refl
latest_more l (q ∷ ps) p = latest_more (latest_after l q.step) ps p

pub none_more : (register : ℕ) (ws : List ℕ) (w : ℕ) → NoneEnds register ws → ends_session register w ≡ false → NoneEnds register (ws ++ w ∷ [])
none_more register [] w n e = (e, tt)
none_more register (x ∷ ws) w n e = (n.0, none_more register ws w n.1 e)

pub only_more : (register : ℕ) (ws : List ℕ) (w : ℕ) → NoneEnds register ws → OnlyLastMayEnd register (ws ++ w ∷ [])
only_more register [] w n = tt
only_more register (x ∷ []) w n = (n.0, tt)
only_more register (x ∷ y ∷ ws) w n = (n.0, only_more register (y ∷ ws) w n.1)

-- a header ends no session
pub header_ends : (l : Option ℕ) (w : ℕ) → is_end (meaning l w) ≡ false
header_ends l w = grind (arith, common_steps)

-- a header is no payload
pub no_payload : (l : Option ℕ) (w register x : ℕ) → meaning l w ≡ Payload register x → ⊥
no_payload l w register x = grind (arith, common_steps)

pub last_ends_more : (register : ℕ) (ws : List ℕ) (w : ℕ) → last_ends register (ws ++ w ∷ []) ≡ ends_session register w
last_ends_more register [] w = refl
last_ends_more register (x ∷ []) w = refl
last_ends_more register (x ∷ y ∷ ws) w = last_ends_more register (y ∷ ws) w

pub ended_more : (ps : List Packet) (p : Packet) → ended (ps ++ p ∷ []) ≡ last_ends (register_named_by p.step) p.payload
ended_more [] p = refl
ended_more (q ∷ []) p = refl
ended_more (q ∷ r ∷ ps) p = ended_more (r ∷ ps) p

pub words_of_payload : (register : ℕ) (ws : List ℕ) → map (λ (s : ℕ × Step). s.0) (payload_steps register ws) ≡ ws
words_of_payload register [] = refl
words_of_payload register (w ∷ ws) = ap (λ t. w ∷ t) (words_of_payload register ws)

-- the words of packets are those of their stepped words
pub words_stepped : (ps : List Packet) → map (λ (s : ℕ × Step). s.0) (flat_map stepped ps) ≡ flat_map words ps
words_stepped [] = refl
words_stepped (p ∷ ps) =
    map-append (λ (s : ℕ × Step). s.0) (stepped p) (flat_map stepped ps)
    ∙ ap (λ t. p.head ∷ t ++ map (λ (s : ℕ × Step). s.0) (flat_map stepped ps)) (words_of_payload (register_named_by p.step) p.payload)
    ∙ ap (λ t. words p ++ t) (words_stepped ps)

-- the words of packets that grew
pub words_grown : (ps qs : List Packet) (more : List (ℕ × Step)) → flat_map stepped qs ≡ flat_map stepped ps ++ more → flat_map words qs ≡ flat_map words ps ++ map (λ (s : ℕ × Step). s.0) more
words_grown ps qs more e =
    sym (words_stepped qs) ∙ ap (map (λ (s : ℕ × Step). s.0)) e ∙ map-append (λ (s : ℕ × Step). s.0) (flat_map stepped ps) more
    ∙ ap (λ t. t ++ map (λ (s : ℕ × Step). s.0) more) (words_stepped ps)

same_fields : (p q : Packet) → p.head ≡ q.head → p.step ≡ q.step → p.payload ≡ q.payload → p ≡ q
same_fields p q a b c =
    ap (λ (x : ℕ). record { head = x; step = p.step; payload = p.payload }) a
    ∙ ap (λ (x : Step). record { head = q.head; step = x; payload = p.payload }) b
    ∙ ap (λ (x : List ℕ). record { head = q.head; step = q.step; payload = x }) c

-- two packets that begin the same words and have payloads of one length are the same
pub same_packet : (l : Option ℕ) (p q : Packet) (cs ds : List ℕ) → IsPacket l p → IsPacket l q → length p.payload ≡ length q.payload → words p ++ cs ≡ words q ++ ds → p ≡ q
same_packet l p q cs ds i j len e =
    let head : p.head ≡ q.head = cc in
    let tail : p.payload ++ cs ≡ q.payload ++ ds = cc in
    same_fields p q head (i.means ∙ ap (meaning l) head ∙ sym j.means) (same_prefix p.payload q.payload cs ds len tail)

pub same_count : (l : Option ℕ) (p q : Packet) (cs ds : List ℕ) → IsPacket l p → IsPacket l q → words p ++ cs ≡ words q ++ ds → count_of p.step ≡ count_of q.step
same_count l p q cs ds i j e =
    let head : p.head ≡ q.head = cc in
    ap count_of (i.means ∙ ap (meaning l) head ∙ sym j.means)

-- words that are those of one packet are not those of a whole packet and of further words
shorter : (l : Option ℕ) (p q : Packet) (d : ℕ) (ds : List ℕ) → IsPacket l p → IsPacket l q → IsWhole q → words p ++ [] ≡ words q ++ d ∷ ds → ⊥
shorter l p q d ds i j w e =
    let c : count_of p.step ≡ count_of q.step = same_count l p q _ _ i j e in
    omega (arith, ap length e, length-append (words p) [], length-append (words q) (d ∷ ds), i.most, w.all)

pub one_list : (l : Option ℕ) (ps qs : List Packet) → EachPacket l ps → EachPacket l qs → flat_map words ps ≡ flat_map words qs → ps ≡ qs
one_list l [] [] a b e = refl
one_list l [] (q ∷ qs) a b e = absurd (cc)
one_list l (p ∷ ps) [] a b e = absurd (cc)
one_list l (p ∷ []) (q ∷ []) a b e = ap (λ x. x ∷ []) (same_packet l p q [] [] a b (omega (arith, ap length e, length-append p.payload [], length-append q.payload [])) e)
one_list l (p ∷ []) (q ∷ r ∷ qs) a b e = absurd (shorter l p q _ _ a b.0 b.1 e)
one_list l (p ∷ r ∷ ps) (q ∷ []) a b e = absurd (shorter l q p _ _ b a.0 a.1 (sym e))
one_list l (p ∷ r ∷ ps) (q ∷ s ∷ qs) a b e =
    let c : count_of p.step ≡ count_of q.step = same_count l p q _ _ a.0 b.0 e in
    let same : p ≡ q = same_packet l p q _ _ a.0 b.0 (a.1.all ∙ c ∙ sym b.1.all) e in
    let Q : Packet → Type 0 = λ x. EachPacket (latest_after l x.step) (s ∷ qs) in
    let tail : p.payload ++ flat_map words (r ∷ ps) ≡ q.payload ++ flat_map words (s ∷ qs) = cc in
    let less : flat_map words (r ∷ ps) ≡ flat_map words (s ∷ qs) = append_cancel_left q.payload _ _ (ap (λ (x : Packet). x.payload ++ flat_map words (r ∷ ps)) (sym same) ∙ tail) in
    ap (λ x. x ∷ r ∷ ps) same ∙ ap (λ xs. q ∷ xs) (one_list (latest_after l p.step) (r ∷ ps) (s ∷ qs) a.2 (subst Q (sym same) b.2) less)

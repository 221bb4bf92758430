-- Lemmas on specs/Machine: what a machine stands for after one word more, and after several payload words.
use Rattle.std.proofs.Common.{◌≡◌, ℕ, ◌+◌, ◌-◌, ◌<◌, ◌==◌, ◌^◌, List, [], ◌∷◌, ◌++◌, Option, None, Some, true, false, length, refl, ap, sym, ◌∙◌, append_assoc, arith, length-append, inl, inr}
use Rattle.std.proofs.lemmas.Bool.{cases_eq}
use Rattle.std.proofs.lemmas.Bool.Decides.{nat_tests}
use Rattle.std.specs.List.{flat_map}
use Rattle.x7_words.specs.Word.{AreWords}
use Rattle.x7_words.proofs.ListLemmas.{flat_map_last, all_append}
use Rattle.x7_packets.specs.declared.header.Step.{Step}
use Rattle.x7_packets.specs.declared.header.Step.TheVariants.{Filler, Nop, Open, Payload, Read, Bad}
use Rattle.x7_packets.specs.Packet.{Packet, IsPacket, IsWhole, NoneEnds, latest_of, latest_after, count_of, register_named_by, words, payload_steps, stepped, meaning, ends_session, last_ends}
use Rattle.x7_packets.specs.Machine.{MachineState, MachineStandsFor, AtHeader, InPayload, HasTakenWords, is_end, session_ends_by}
use Rattle.x7_packets.proofs.PacketLemmas.{whole_more, each_more, latest_more, none_more, only_more, header_ends, last_ends_more, ended_more}
use Rattle.x7_packets.specs.ByHand.{with_payload_word}
use Rattle.std.proofs.lemmas.List.{map-append}

-- a header whose packet is whole at once
pub header_whole : (m n : MachineState) (ps : List Packet) (w : ℕ) (s : Step) → w < 2 ^ 32 → AtHeader m ps → s ≡ meaning m.latest w → count_of s ≡ 0 → n.latest ≡ latest_after m.latest s → n.due ≡ 0 → HasTakenWords ps ((w, s) ∷ []) n
header_whole m n ps w s f a e z l d =
    let p : Packet = record { head = w; step = s; payload = [] } in
    let i : IsPacket (latest_of None ps) p = record { fits = (f, tt); means = e ∙ ap (λ o. meaning o w) a.latest; most = omega arith; goes_on = tt } in
    let is_whole : IsWhole p = record { all = sym z; none_ends = tt } in
    let calm : is_end s ≡ false = ap is_end e ∙ header_ends m.latest w in
    record {
      packets = ps ++ p ∷ [];
      each = each_more None ps p a.whole i;
      grown = flat_map_last stepped ps p;
      end = ended_more ps p ∙ sym calm;
      stands = rw calm (inl (record { whole = whole_more None ps p a.whole i is_whole; latest = l ∙ ap (λ o. latest_after o s) a.latest ∙ sym (latest_more None ps p); due = d }));
    }

-- a write's header with a payload to come
pub header_opens : (m n : MachineState) (ps : List Packet) (w register count : ℕ) → w < 2 ^ 32 → AtHeader m ps → Open register count ≡ meaning m.latest w → 0 < count → n.latest ≡ Some register → n.due ≡ count → n.register ≡ register → HasTakenWords ps ((w, Open register count) ∷ []) n
header_opens m n ps w register count f a e z l d r =
    let p : Packet = record { head = w; step = Open register count; payload = [] } in
    let means : Open register count ≡ meaning (latest_of None ps) w = e ∙ ap (λ o. meaning o w) a.latest in
    let i : IsPacket (latest_of None ps) p = record { fits = (f, tt); means = means; most = omega arith; goes_on = tt } in
    record {
      packets = ps ++ p ∷ [];
      each = each_more None ps p a.whole i;
      grown = flat_map_last stepped ps p;
      end = ended_more ps p;
      stands = inr (record { prefix = ps; last = p; split = refl; whole = a.whole; fits = (f, tt); means = means; count = count; opens = ap (λ x. Open x count) (sym r); latest = l ∙ ap (λ x. Some x) (sym r); due = omega arith; more = omega arith; none_ends = tt });
    }

-- the stepped words of packets whose last has one payload word more
pub stepped_more : (prefix : List Packet) (p : Packet) (w : ℕ) → flat_map stepped (prefix ++ with_payload_word p w ∷ []) ≡ flat_map stepped (prefix ++ p ∷ []) ++ (w, Payload (register_named_by p.step) w) ∷ []
stepped_more prefix p w =
    flat_map_last stepped prefix (with_payload_word p w)
    ∙ ap (λ t. flat_map stepped prefix ++ (p.head, p.step) ∷ t) (map-append (λ x. (x, Payload (register_named_by p.step) x)) p.payload (w ∷ []))
    ∙ sym (append_assoc (flat_map stepped prefix) (stepped p) ((w, Payload (register_named_by p.step) w) ∷ []))
    ∙ ap (λ t. t ++ (w, Payload (register_named_by p.step) w) ∷ []) (sym (flat_map_last stepped prefix p))

-- the stepped words of an open payload with one word more
open_more : (m : MachineState) (ps : List Packet) (w : ℕ) (a : InPayload m ps) → flat_map stepped (a.prefix ++ with_payload_word a.last w ∷ []) ≡ flat_map stepped ps ++ (w, Payload m.register w) ∷ []
open_more m ps w a =
    let same_register : register_named_by a.last.step ≡ m.register = ap register_named_by a.opens in
    stepped_more a.prefix a.last w ∙ ap (λ x. flat_map stepped (a.prefix ++ a.last ∷ []) ++ (w, Payload x w) ∷ []) same_register ∙ ap (λ x. flat_map stepped x ++ (w, Payload m.register w) ∷ []) (sym a.split)

fits_more : (p : Packet) (w : ℕ) → AreWords (words p) → w < 2 ^ 32 → AreWords (words (with_payload_word p w))
fits_more p w a f = all_append (λ x. x < 2 ^ 32) (words p) (w ∷ []) a (f, tt)

-- a payload word that goes on
pub payload_goes : (m n : MachineState) (ps : List Packet) (w : ℕ) → w < 2 ^ 32 → InPayload m ps → ends_session m.register w ≡ false → n.register ≡ m.register → n.latest ≡ m.latest → n.due + 1 ≡ m.due → HasTakenWords ps ((w, Payload m.register w) ∷ []) n
payload_goes m n ps w f a e r l d =
    let p : Packet = with_payload_word a.last w in
    let same_register : register_named_by a.last.step ≡ m.register = ap register_named_by a.opens in
    let same_count : count_of a.last.step ≡ a.count = ap count_of a.opens in
    let none : NoneEnds m.register p.payload = none_more m.register a.last.payload w a.none_ends e in
    let more : length p.payload ≡ length a.last.payload + 1 = length-append a.last.payload (w ∷ []) in
    let fits : AreWords (words p) = fits_more a.last w a.fits f in
    let i : IsPacket (latest_of None a.prefix) p = record { fits = fits; means = a.means; most = omega (arith, a.more, a.due); goes_on = rw same_register (only_more m.register a.last.payload w a.none_ends) } in
    record {
      packets = a.prefix ++ p ∷ [];
      each = each_more None a.prefix p a.whole i;
      grown = open_more m ps w a;
      end = ended_more a.prefix p ∙ ap (λ x. last_ends x p.payload) same_register ∙ last_ends_more m.register a.last.payload w;
      stands = rw e (elim (cases_eq n.due 0) [
        | inl z ↦ inl (record { whole = whole_more None a.prefix p a.whole i (record { all = omega (arith, a.due); none_ends = rw same_register none }); latest = l ∙ a.latest ∙ sym (latest_more None a.prefix p ∙ ap (latest_after (latest_of None a.prefix)) a.opens); due = z })
        | inr z ↦ inr (record {
          prefix = a.prefix;
          last = p;
          split = refl;
          whole = a.whole;
          fits = fits;
          means = a.means;
          count = a.count;
          opens = a.opens ∙ ap (λ x. Open x a.count) (sym r);
          latest = l ∙ a.latest ∙ ap (λ x. Some x) (sym r);
          due = omega (arith, a.due);
          more = omega arith;
          none_ends = rw r none;
        })
      ]);
    }

-- a payload word that ends the session
pub payload_ends : (m n : MachineState) (ps : List Packet) (w : ℕ) → w < 2 ^ 32 → InPayload m ps → ends_session m.register w ≡ true → MachineStandsFor n [] → HasTakenWords ps ((w, Payload m.register w) ∷ []) n
payload_ends m n ps w f a e s =
    let p : Packet = with_payload_word a.last w in
    let same_register : register_named_by a.last.step ≡ m.register = ap register_named_by a.opens in
    let same_count : count_of a.last.step ≡ a.count = ap count_of a.opens in
    let more : length p.payload ≡ length a.last.payload + 1 = length-append a.last.payload (w ∷ []) in
    let i : IsPacket (latest_of None a.prefix) p = record { fits = fits_more a.last w a.fits f; means = a.means; most = omega (arith, a.more, a.due); goes_on = rw same_register (only_more m.register a.last.payload w a.none_ends) } in
    record {
      packets = a.prefix ++ p ∷ [];
      each = each_more None a.prefix p a.whole i;
      grown = open_more m ps w a;
      end = ended_more a.prefix p ∙ ap (λ x. last_ends x p.payload) same_register ∙ last_ends_more m.register a.last.payload w;
      stands = rw e s;
    }

pub no_count : (s : Step) → ((r n : ℕ) → s ≡ Open r n → ⊥) → count_of s ≡ 0
no_count (Open r n) h = absurd (h r n refl)
no_count Filler h = refl
no_count Nop h = refl
no_count (Payload r n) h = refl
no_count (Read r n) h = refl
no_count (Bad n) h = refl

pub same_latest : (l : Option ℕ) (s : Step) → ((r n : ℕ) → s ≡ Open r n → ⊥) → ((r n : ℕ) → s ≡ Read r n → ⊥) → l ≡ latest_after l s
same_latest l (Open r n) h k = absurd (h r n refl)
same_latest l Filler h k = refl
same_latest l Nop h k = refl
same_latest l (Payload r n) h k = refl
same_latest l (Read r n) h k = absurd (k r n refl)
same_latest l (Bad n) h k = refl

-- a word of a register other than CMD ends no session
pub calm_word : (register w : ℕ) → (register ≡ 4 → ⊥) → ends_session register w ≡ false
calm_word register w c = let e : (register == 4) ≡ false = grind (arith, nat_tests) in rw e refl

pub calm_words : (register : ℕ) (ws : List ℕ) → (register ≡ 4 → ⊥) → session_ends_by (payload_steps register ws) ≡ false
calm_words register [] c = refl
calm_words register (w ∷ []) c = calm_word register w c
calm_words register (w ∷ x ∷ ws) c = calm_words register (x ∷ ws) c

-- payload words that go on, of a register other than CMD
pub payload_goes_on : (m n : MachineState) (ps : List Packet) (ws : List ℕ) → AreWords ws → InPayload m ps → (m.register ≡ 4 → ⊥) → 0 < length ws → n.register ≡ m.register → n.latest ≡ m.latest → n.due + length ws ≡ m.due → HasTakenWords ps (payload_steps m.register ws) n
payload_goes_on m n ps [] f a c h r l d = absurd (omega arith)
payload_goes_on m n ps (w ∷ []) f a c h r l d = payload_goes m n ps w f.0 a (calm_word m.register w c) r l (omega (arith, d))
payload_goes_on m n ps (w ∷ x ∷ ws) f a c h r l d =
    let next : MachineState = record { due = m.due - 1; register = m.register; latest = m.latest } in
    let e : ends_session m.register w ≡ false = calm_word m.register w c in
    let g : HasTakenWords ps ((w, Payload m.register w) ∷ []) next = payload_goes m next ps w f.0 a e refl refl (omega (arith, d)) in
    let stands : MachineStandsFor next g.packets = rw e at g.stands in
    let again : InPayload next g.packets = elim stands [ inl b ↦ absurd (let z : m.due - 1 ≡ 0 = b.due in omega (arith, d)) | inr b ↦ b ] in
    let rest : HasTakenWords g.packets (payload_steps m.register (x ∷ ws)) n = payload_goes_on next n g.packets (x ∷ ws) f.1 again c (omega arith) r l (omega (arith, d)) in
    record {
      packets = rest.packets;
      each = rest.each;
      grown = rest.grown ∙ ap (λ t. t ++ payload_steps m.register (x ∷ ws)) g.grown ∙ append_assoc (flat_map stepped ps) ((w, Payload m.register w) ∷ []) (payload_steps m.register (x ∷ ws));
      end = rest.end;
      stands = rest.stands;
    }

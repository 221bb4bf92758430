-- The words of a session listed one by one are the lines of its packets.
use Rattle.std.proofs.Common.{◌≡◌, ℕ, ◌==◌, Bool, true, false, List, [], ◌∷◌, ◌++◌, Option, refl, ap, sym, ◌∙◌, append_assoc, append-nil, codes, flat_map, map}
use Rattle.std.proofs.Common.{arith}
use Rattle.std.proofs.lemmas.Bool.Decides.{nat_tests}
use Rattle.x7_packets.specs.Packet.{Packet, EachPacket, IsPacket, latest_after, register_named_by, payload_steps, stepped}
use Rattle.x7_packets.specs.declared.header.Step.{Step}
use Rattle.x7_packets.specs.declared.header.Step.TheVariants.{Filler, Nop, Open, Payload, Read, Bad}
use Rattle.x7_packets.proofs.PacketLemmas.{no_payload}
use Rattle.x7_text.specs.Row.{close, element_text, in_line_after, next_in_line, open_text, spaced}
use Rattle.x7_text.proofs.LineLemmas.{data_closed}
use Rattle.x7_listing.specs.HeadLine.{text_of_head}
use Rattle.x7_listing.specs.Line.{cmd_line, ended_text, ended_texts}
use Rattle.x7_listing.specs.Listing.{packet_lines, payload_lines}
use Rattle.x7_listing.specs.Lister.{in_line_after_payload, in_line_after_word, open_session_word, in_line_after_words, open_words}
use Rattle.x7_listing.proofs.ListingLemmas.{rows_text, texts_append}

pub open_words_append : (i : ℕ) (xs ys : List (ℕ × Step)) → open_words i (xs ++ ys) ≡ open_words i xs ++ open_words (in_line_after_words i xs) ys
open_words_append i [] ys = refl
open_words_append i (x ∷ xs) ys = ap (λ t. open_session_word i x.0 x.1 ++ t) (open_words_append (in_line_after_word i x.1) xs ys) ∙ sym (append_assoc (open_session_word i x.0 x.1) (open_words (in_line_after_word i x.1) xs) (open_words (in_line_after_words (in_line_after_word i x.1) xs) ys))

pub words_place_append : (i : ℕ) (xs ys : List (ℕ × Step)) → in_line_after_words i (xs ++ ys) ≡ in_line_after_words (in_line_after_words i xs) ys
words_place_append i [] ys = refl
words_place_append i (x ∷ xs) ys = words_place_append (in_line_after_word i x.1) xs ys

-- payload words of a register other than CMD are listed in `data` lines
pub data_listed : (register i : ℕ) (ws : List ℕ) → (register == 4) ≡ false → open_words i (payload_steps register ws) ≡ open_text 8 (codes "data") spaced i ws
data_listed register i [] e = refl
data_listed register i (w ∷ ws) e = rw e (ap (λ t. element_text 8 (codes "data") spaced i w ++ t) (data_listed register (next_in_line 8 i) ws e))

pub data_place : (register i : ℕ) (ws : List ℕ) → (register == 4) ≡ false → in_line_after_words i (payload_steps register ws) ≡ in_line_after 8 i ws
data_place register i [] e = refl
data_place register i (w ∷ ws) e = ap (λ b. in_line_after_words (in_line_after_payload b i) (payload_steps register ws)) e ∙ data_place register (next_in_line 8 i) ws e

commands_listed : (register : ℕ) (ws : List ℕ) → (register == 4) ≡ true → open_words 0 (payload_steps register ws) ≡ ended_texts (map cmd_line ws)
commands_listed register [] e = refl
commands_listed register (w ∷ ws) e = rw e (ap (λ t. ended_text (cmd_line w) ++ t) (commands_listed register ws e))

commands_place : (register : ℕ) (ws : List ℕ) → (register == 4) ≡ true → in_line_after_words 0 (payload_steps register ws) ≡ 0
commands_place register [] e = refl
commands_place register (w ∷ ws) e = ap (λ b. in_line_after_words (in_line_after_payload b 0) (payload_steps register ws)) e ∙ commands_place register ws e

payload_by : (register : ℕ) (ws : List ℕ) (b : Bool) → (register == 4) ≡ b → open_words 0 (payload_steps register ws) ++ close (in_line_after_words 0 (payload_steps register ws)) ≡ ended_texts (payload_lines register ws)
payload_by register ws true e = ap (λ t. t ++ close (in_line_after_words 0 (payload_steps register ws))) (commands_listed register ws e) ∙ ap (λ k. ended_texts (map cmd_line ws) ++ close k) (commands_place register ws e) ∙ append-nil (ended_texts (map cmd_line ws)) ∙ rw e refl
payload_by register ws false e = ap (λ t. t ++ close (in_line_after_words 0 (payload_steps register ws))) (data_listed register 0 ws e) ∙ ap (λ k. open_text 8 (codes "data") spaced 0 ws ++ close k) (data_place register 0 ws e) ∙ data_closed ws ∙ sym (rows_text ws) ∙ rw e refl

payload_closed : (register : ℕ) (ws : List ℕ) → open_words 0 (payload_steps register ws) ++ close (in_line_after_words 0 (payload_steps register ws)) ≡ ended_texts (payload_lines register ws)
payload_closed register ws = payload_by register ws (register == 4) refl

pub head_listed : (i w : ℕ) (s : Step) → ((r x : ℕ) → s ≡ Payload r x → ⊥) → open_session_word i w s ≡ close i ++ text_of_head s w
head_listed i w (Payload r x) h = absurd (h r x refl)
head_listed i w Filler h = refl
head_listed i w Nop h = refl
head_listed i w (Open r n) h = refl
head_listed i w (Read r n) h = refl
head_listed i w (Bad x) h = refl

pub head_next : (i : ℕ) (s : Step) → ((r x : ℕ) → s ≡ Payload r x → ⊥) → in_line_after_word i s ≡ 0
head_next i (Payload r x) h = absurd (h r x refl)
head_next i Filler h = refl
head_next i Nop h = refl
head_next i (Open r n) h = refl
head_next i (Read r n) h = refl
head_next i (Bad x) h = refl

packet_glue : (W c h C O R : List ℕ) → W ≡ c ++ h → O ++ C ≡ R → W ++ O ++ C ≡ c ++ (h ++ R)
packet_glue W c h C O R e f = rw (e, ← f) (simp append_assoc)

packet_closed : (l : Option ℕ) (i : ℕ) (p : Packet) → IsPacket l p → open_words i (stepped p) ++ close (in_line_after_words i (stepped p)) ≡ close i ++ ended_texts (packet_lines p)
packet_closed l i p is =
    let none : (r x : ℕ) → p.step ≡ Payload r x → ⊥ = λ r x e. no_payload l p.head r x (sym is.means ∙ e) in
    let ss : List (ℕ × Step) = payload_steps (register_named_by p.step) p.payload in
    ap (λ k. open_session_word i p.head p.step ++ open_words k ss ++ close (in_line_after_words k ss)) (head_next i p.step none)
    ∙ packet_glue (open_session_word i p.head p.step) (close i) (text_of_head p.step p.head) (close (in_line_after_words 0 ss)) (open_words 0 ss) (ended_texts (payload_lines (register_named_by p.step) p.payload)) (head_listed i p.head p.step none) (payload_closed (register_named_by p.step) p.payload)

split_each : (l : Option ℕ) (p : Packet) (ps : List Packet) → EachPacket l (p ∷ ps) → IsPacket l p × EachPacket (latest_after l p.step) ps
split_each l p [] e = (e, tt)
split_each l p (q ∷ ps) e = (e.0, e.2)

session_glue : (A B C K F I P : List ℕ) → B ++ C ≡ K ++ F → A ++ K ≡ I ++ P → A ++ B ++ C ≡ I ++ (P ++ F)
session_glue A B C K F I P e f = append_assoc A B C ∙ ap (λ t. A ++ t) e ∙ sym (append_assoc A K F) ∙ ap (λ t. t ++ F) f ∙ append_assoc I P F

-- the words of packets listed one by one are the packets' lines
pub session_closed : (l : Option ℕ) (i : ℕ) (ps : List Packet) → EachPacket l ps → open_words i (flat_map stepped ps) ++ close (in_line_after_words i (flat_map stepped ps)) ≡ close i ++ ended_texts (flat_map packet_lines ps)
session_closed l i [] e = sym (append-nil (close i))
session_closed l i (p ∷ ps) e =
    let s : IsPacket l p × EachPacket (latest_after l p.step) ps = split_each l p ps e in
    let rest : List (ℕ × Step) = flat_map stepped ps in
    ap (λ t. t ++ close (in_line_after_words i (stepped p ++ rest))) (open_words_append i (stepped p) rest)
    ∙ ap (λ k. open_words i (stepped p) ++ open_words (in_line_after_words i (stepped p)) rest ++ close k) (words_place_append i (stepped p) rest)
    ∙ session_glue (open_words i (stepped p)) (open_words (in_line_after_words i (stepped p)) rest) (close (in_line_after_words (in_line_after_words i (stepped p)) rest)) (close (in_line_after_words i (stepped p))) (ended_texts (flat_map packet_lines ps)) (close i) (ended_texts (packet_lines p))
    (session_closed (latest_after l p.step) (in_line_after_words i (stepped p)) ps s.1) (packet_closed l i p s.0)
    ∙ ap (λ t. close i ++ t) (sym (texts_append (packet_lines p) (flat_map packet_lines ps)))

-- a register other than CMD
pub is_data : (register : ℕ) → (register ≡ 4 → ⊥) → (register == 4) ≡ false
is_data register c = grind (arith, nat_tests)

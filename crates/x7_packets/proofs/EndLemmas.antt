-- Nothing follows packets that end a session.
use Rattle.std.proofs.Common.{◌≡◌, ℕ, true, false, List, [], ◌∷◌, ◌++◌, length, Option, refl, ap, sym, subst, ◌∙◌, append_assoc, append-nil, arith, length-append}
use Rattle.std.specs.List.{flat_map}
use Rattle.std.proofs.lemmas.List.{append_cancel_left}
use Rattle.x7_words.proofs.ListLemmas.{shorter_prefix}
use Rattle.x7_packets.specs.Packet.{Packet, EachPacket, IsWhole, OnlyLastMayEnd, NoneEnds, latest_after, count_of, register_named_by, words, meaning, ends_session, ended, last_ends}
use Rattle.x7_packets.proofs.PacketLemmas.{same_packet, same_count}

only_then : (register : ℕ) (xs m : List ℕ) → last_ends register xs ≡ true → OnlyLastMayEnd register (xs ++ m) → m ≡ []
only_then register [] m e o = absurd (cc)
only_then register (x ∷ []) [] e o = refl
only_then register (x ∷ []) (y ∷ m) e o = absurd (let h : ends_session register x ≡ false = o.0 in cc)
only_then register (x ∷ y ∷ xs) m e o = only_then register (y ∷ xs) m e o.1

none_then : (register : ℕ) (xs m : List ℕ) → last_ends register xs ≡ true → NoneEnds register (xs ++ m) → ⊥
none_then register [] m e o = cc
none_then register (x ∷ []) m e o = let h : ends_session register x ≡ false = o.0 in cc
none_then register (x ∷ y ∷ xs) m e o = none_then register (y ∷ xs) m e o.1

not_prefix : (p q : Packet) (m : List ℕ) → p.step ≡ q.step → last_ends (register_named_by p.step) p.payload ≡ true → IsWhole q → q.payload ≡ p.payload ++ m → ⊥
not_prefix p q m step d w f = none_then (register_named_by p.step) p.payload m d (rw (step, ← f) w.none_ends)

pub after_end : (l : Option ℕ) (ps qs : List Packet) (m : List ℕ) → EachPacket l ps → ended ps ≡ true → EachPacket l qs → flat_map words ps ++ m ≡ flat_map words qs → m ≡ []
after_end l [] qs m a d b e = absurd (cc)
after_end l (p ∷ ps) [] m a d b e = absurd (cc)
after_end l (p ∷ []) (q ∷ []) m a d b e =
    let head : p.head ≡ q.head = cc in
    let step : p.step ≡ q.step = a.means ∙ ap (meaning l) head ∙ sym b.means in
    let tail : p.payload ++ [] ++ m ≡ q.payload ++ [] = cc in
    let pay : p.payload ++ m ≡ q.payload = ap (λ t. t ++ m) (sym (append-nil p.payload)) ∙ tail ∙ append-nil q.payload in
    let o : OnlyLastMayEnd (register_named_by p.step) (p.payload ++ m) = rw (step, pay) b.goes_on in
    only_then (register_named_by p.step) p.payload m d o
after_end l (p ∷ []) (q ∷ r ∷ qs) m a d b e =
    let head : p.head ≡ q.head = cc in
    let step : p.step ≡ q.step = a.means ∙ ap (meaning l) head ∙ sym b.0.means in
    let c : count_of p.step ≡ count_of q.step = ap count_of step in
    let tail : p.payload ++ [] ++ m ≡ q.payload ++ flat_map words (r ∷ qs) = cc in
    let f : (x : List ℕ) × (q.payload ≡ p.payload ++ x) = shorter_prefix p.payload q.payload m _ (omega (arith, a.most, b.1.all)) (ap (λ t. t ++ m) (sym (append-nil p.payload)) ∙ tail) in
    absurd (not_prefix p q f.0 step d b.1 f.1)
after_end l (p ∷ r ∷ ps) (q ∷ []) m a d b e =
    let head : p.head ≡ q.head = cc in
    let step : p.step ≡ q.step = a.0.means ∙ ap (meaning l) head ∙ sym b.means in
    let c : count_of p.step ≡ count_of q.step = ap count_of step in
    absurd (omega (arith, ap length e, length-append (words p ++ flat_map words (r ∷ ps)) m, length-append (words p) (flat_map words (r ∷ ps)), length-append (words q) [], b.most, a.1.all))
after_end l (p ∷ r ∷ ps) (q ∷ s ∷ qs) m a d b e =
    let e' : words p ++ (flat_map words (r ∷ ps) ++ m) ≡ words q ++ flat_map words (s ∷ qs) = sym (append_assoc (words p) (flat_map words (r ∷ ps)) m) ∙ e in
    let c : count_of p.step ≡ count_of q.step = same_count l p q _ _ a.0 b.0 e' in
    let same : p ≡ q = same_packet l p q _ _ a.0 b.0 (a.1.all ∙ c ∙ sym b.1.all) e' in
    let Q : Packet → Type 0 = λ x. EachPacket (latest_after l x.step) (s ∷ qs) in
    let tail : p.payload ++ (flat_map words (r ∷ ps) ++ m) ≡ q.payload ++ flat_map words (s ∷ qs) = cc in
    let less : flat_map words (r ∷ ps) ++ m ≡ flat_map words (s ∷ qs) = append_cancel_left q.payload _ _ (ap (λ (x : Packet). x.payload ++ (flat_map words (r ∷ ps) ++ m)) (sym same) ∙ tail) in
    after_end (latest_after l p.step) (r ∷ ps) (s ∷ qs) m a.2 d (subst Q (sym same) b.2) less

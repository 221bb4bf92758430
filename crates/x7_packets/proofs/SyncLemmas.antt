-- Lemmas on specs/SyncWord and specs/Matching: where the sync word may stand in a list with more bytes at its end.
use Rattle.std.proofs.Common.{Bool, ◌≡◌, ℕ, List, [], ◌∷◌, ◌++◌, length, refl, ap, sym, ◌∙◌, append_assoc, append-nil, arith, length-append, ◌↔◌, IsTrue, inl, inr}
use Rattle.std.proofs.lemmas.List.{append_cancel_right}
use Rattle.x7_words.proofs.ListLemmas.{same_end, last_of}
use Rattle.x7_packets.specs.SyncWord.{EndsWithSync, HasNoSync, IsBeforeSync, sync_bytes}
use Rattle.x7_packets.specs.Matching.{LastThree, MatcherStandsFor}

found_from : (bytes f before : List ℕ) (a b c x : ℕ) → 0 ∷ 0 ∷ 0 ∷ bytes ≡ before ++ a ∷ b ∷ c ∷ [] → bytes ++ x ∷ [] ≡ f ++ sync_bytes → a ∷ b ∷ c ∷ x ∷ [] ≡ sync_bytes
found_from bytes f before a b c x e h =
    same_end before (0 ∷ 0 ∷ 0 ∷ f) (a ∷ b ∷ c ∷ x ∷ []) sync_bytes refl
    (sym (append_assoc before (a ∷ b ∷ c ∷ []) (x ∷ [])) ∙ ap (λ (t : List ℕ). t ++ x ∷ []) (sym e) ∙ ap (λ (t : List ℕ). 0 ∷ 0 ∷ 0 ∷ t) h)

found_to : (bytes before : List ℕ) (a b c x : ℕ) → a ∷ b ∷ c ∷ x ∷ [] ≡ sync_bytes → 0 ∷ 0 ∷ 0 ∷ bytes ≡ before ++ a ∷ b ∷ c ∷ [] → EndsWithSync (bytes ++ x ∷ [])
found_to bytes [] a b c x s e = absurd (cc)
found_to bytes (p ∷ []) a b c x s e = absurd (cc)
found_to bytes (p ∷ q ∷ []) a b c x s e = absurd (cc)
found_to bytes (p ∷ q ∷ r ∷ f) a b c x s e =
    let same : bytes ≡ f ++ a ∷ b ∷ c ∷ [] = cc in
    (f, ap (λ (t : List ℕ). t ++ x ∷ []) same ∙ append_assoc f (a ∷ b ∷ c ∷ []) (x ∷ []) ∙ ap (λ (t : List ℕ). f ++ t) s)

-- the last three bytes with one byte more
shifts : (bytes before : List ℕ) (a b c x : ℕ) → 0 ∷ 0 ∷ 0 ∷ bytes ≡ before ++ a ∷ b ∷ c ∷ [] → 0 ∷ 0 ∷ 0 ∷ (bytes ++ x ∷ []) ≡ (before ++ a ∷ []) ++ b ∷ c ∷ x ∷ []
shifts bytes before a b c x e = ap (λ (t : List ℕ). t ++ x ∷ []) e ∙ append_assoc before (a ∷ b ∷ c ∷ []) (x ∷ []) ∙ sym (append_assoc before (a ∷ []) (b ∷ c ∷ x ∷ []))

-- a matcher that took one byte more
pub took_one : (m : LastThree) (bytes : List ℕ) (x : ℕ) → MatcherStandsFor m bytes → MatcherStandsFor (record { first = m.second; second = m.third; third = x }) (bytes ++ x ∷ [])
took_one m bytes x s = record { before = s.before ++ m.first ∷ []; last = shifts bytes s.before m.first m.second m.third x s.last }

pub ends_so : (m : LastThree) (bytes : List ℕ) (x : ℕ) → MatcherStandsFor m bytes → EndsWithSync (bytes ++ x ∷ []) → m.first ∷ m.second ∷ m.third ∷ x ∷ [] ≡ sync_bytes
ends_so m bytes x s e = found_from bytes e.0 s.before _ _ _ x s.last e.1

-- the last three bytes and the next are the sync word exactly where the bytes end with it
pub found : (m : LastThree) (x : ℕ) (r : Bool) → (IsTrue r ↔ (m.first ∷ m.second ∷ m.third ∷ x ∷ [] ≡ sync_bytes)) → (bytes : List ℕ) → MatcherStandsFor m bytes → IsTrue r ↔ EndsWithSync (bytes ++ x ∷ [])
found m x r h bytes s = (λ t. found_to bytes s.before _ _ _ x (h.0 t) s.last, λ e. h.1 (found_from bytes e.0 s.before _ _ _ x s.last e.1))

-- the prefixes of two lists that end in one element each
prefixes : (xs ys : List ℕ) (x y : ℕ) → xs ++ x ∷ [] ≡ ys ++ y ∷ [] → xs ≡ ys
prefixes xs ys x y e = append_cancel_right xs ys (y ∷ []) (ap (λ t. xs ++ t) (sym (same_end xs ys (x ∷ []) (y ∷ []) refl e)) ∙ e)

-- a sync word that comes with the last byte has nothing after it
pub at_the_end : (gap prefix back : List ℕ) (x : ℕ) → HasNoSync gap → gap ++ x ∷ [] ≡ prefix ++ sync_bytes ++ back → back ≡ []
at_the_end gap prefix back x n e = elim (last_of back) [
  | inl h ↦ h
  | inr l ↦ absurd (n.none prefix l.0 (prefixes gap (prefix ++ sync_bytes ++ l.0) x l.1 (e ∙ ap (λ t. prefix ++ sync_bytes ++ t) l.2 ∙ sym (append_assoc (prefix ++ sync_bytes) l.0 (l.1 ∷ [])))))
]

pub none_yet : (gap : List ℕ) (x : ℕ) → HasNoSync gap → (EndsWithSync (gap ++ x ∷ []) → ⊥) → HasNoSync (gap ++ x ∷ [])
none_yet gap x n h = record { none = λ prefix back e. h (prefix, e ∙ ap (λ t. prefix ++ sync_bytes ++ t) (at_the_end gap prefix back x n e) ∙ append-nil (prefix ++ sync_bytes)) }

pub first_here : (gap prefix : List ℕ) (x : ℕ) → HasNoSync gap → gap ++ x ∷ [] ≡ prefix ++ sync_bytes → IsBeforeSync prefix
first_here gap prefix x n h = record { first = λ f back e. at_the_end gap f back x n (h ∙ e) }

pub none_empty : HasNoSync []
none_empty = record { none = λ prefix back e. omega (arith, ap length e, length-append (prefix ++ sync_bytes) back, length-append prefix sync_bytes) }

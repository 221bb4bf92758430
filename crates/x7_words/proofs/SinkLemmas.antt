-- Lemmas on bytes that are written one after the other.
use Rattle.std.proofs.Common.{◌≡◌, ℕ, List, [], ◌∷◌, ◌++◌, ◌+◌, ◌<◌, take, drop, length, Option, None, Some, Result, Ok, Err, OnOk, OnErr, refl, ap, append_assoc, append-nil, sym, ◌∙◌, arith, inl, inr, flat_map, zero, suc, get_or}
use Rattle.std.proofs.Math.Seq.{take-add}
use Rattle.std.proofs.lemmas.List.{take-append-drop}
use Rattle.x7_words.specs.Sink.{appended, PutsAll, PutsOrFails, PutsPrefix, PutsSome, SinkFails, SinkFaultsNeverFall, SinkState}

-- nothing more leaves what was written
pub appended_nil : (known : Option (List ℕ)) → appended known [] ≡ known
appended_nil None = refl
appended_nil (Some old) = ap Some (append-nil old)

-- two pieces one after the other are the joined piece
pub appended_appended : (known : Option (List ℕ)) (a b : List ℕ) → appended (appended known a) b ≡ appended known (a ++ b)
appended_appended None a b = refl
appended_appended (Some old) a b = ap Some (append_assoc old a b)

-- a write of what is left of a text
pub written_more : (first mid last : Option (List ℕ)) (text : List ℕ) (at k : ℕ) → mid ≡ appended first (take at text) → last ≡ appended mid (take k (drop at text)) → last ≡ appended first (take (at + k) text)
written_more first mid last text at k p q =
    rw (q, p, appended_appended, take-add at k text) refl

-- a prefix of a text by its length
pub puts_prefix : (first last : Option (List ℕ)) (text : List ℕ) (at : ℕ) → last ≡ appended first (take at text) → PutsPrefix first text last
puts_prefix first last text at p = (take at text, (drop at text, sym (take-append-drop at text), p))

-- some pieces whole and a prefix of the next are a prefix of all
pub prefix_more : (first mid last : Option (List ℕ)) (a b c : List ℕ) → mid ≡ appended first a → PutsPrefix mid b last → PutsPrefix first (a ++ (b ++ c)) last
prefix_more first mid last a b c p (prefix, (back, split, put)) =
    (a ++ prefix, (back ++ c, rw (split, append_assoc, append_assoc) refl, rw (put, p, appended_appended) refl))

-- the joined pieces around the one at k
pub flat_map_at : {X : Type 0} (f : X → List ℕ) (pieces : List X) (k : ℕ) (d : X) → k < length pieces → flat_map f pieces ≡ flat_map f (take k pieces) ++ (f (get_or pieces k d) ++ flat_map f (drop (suc k) pieces))
flat_map_at f [] k d h = absurd (omega arith)
flat_map_at f (p ∷ ps) zero d h = refl
flat_map_at f (p ∷ ps) (suc k) d h = ap (λ r. f p ++ r) (flat_map_at f ps k d (omega arith)) ∙ sym (append_assoc (f p) (flat_map f (take k ps)) (f (get_or ps k d) ++ flat_map f (drop (suc k) ps)))

-- a call that writes the whole text or fails, and in any case a prefix of it
pub puts_or_fails : {E : Type 0} (old new : SinkState) (text : List ℕ) (result : Result (Unit {0}) E) → OnOk result (PutsAll old text new) → OnErr result (SinkFails old new) → PutsSome old text new → PutsOrFails old text new
puts_or_fails old new text (Ok _) whole failed prefix = inl whole
puts_or_fails old new text (Err _) whole failed prefix = inr (failed, prefix)

-- a count that does not fall over one call and over the next does not fall over both
pub counts_on : (a b c : SinkState) → SinkFaultsNeverFall a b → SinkFaultsNeverFall b c → SinkFaultsNeverFall a c
counts_on a b c p q = record { faults = omega (arith, p.faults, q.faults); fits = λ h. q.fits (p.fits h) }

pub counts_at : (s : SinkState) → SinkFaultsNeverFall s s
counts_at s = record { faults = omega arith; fits = λ h. h }

-- where a text was written in part, one that it begins was
pub begins_more : (first now : Option (List ℕ)) (line more : List ℕ) → PutsPrefix first line now → PutsPrefix first (line ++ more) now
begins_more first now line more p = (p.0, (p.1.0 ++ more, ap (λ t. t ++ more) p.1.1 ∙ append_assoc p.0 p.1.0 more, p.1.2))

-- Frames by their addresses.
use Rattle.std.proofs.Common.{◌≡◌, ℕ, zero, suc, ◌+◌, ◌<◌, inl, inr, List, [], ◌∷◌, length, get_or, set, eq-eqb, ne_eqb, Some, None, refl, sym, ◌∙◌, ◌==◌, if◌then◌else◌, arith}
use Rattle.std.specs.Prelude.{Contains}
use Rattle.std.proofs.lemmas.Bool.Decides.{eqb_tells}
use Rattle.x7_part.proofs.RowLemmas.{later_larger}
use Rattle.x7_part.specs.AddressOrder.{Rises, rise}
use Rattle.x7_memory.specs.PartFrames.{frame_among}

-- ---- one address more

pub among_here : (a : ℕ) (rest : List ℕ) (words : List ℕ) (frames : List (List ℕ)) (far : ℕ) → far ≡ a → frame_among (a ∷ rest) (words ∷ frames) far ≡ Some words
unfolding frame_among
among_here a rest words frames far e = rw (eq-eqb far a e) refl

pub among_after : (a : ℕ) (rest : List ℕ) (words : List ℕ) (frames : List (List ℕ)) (far : ℕ) → (far ≡ a → ⊥) → frame_among (a ∷ rest) (words ∷ frames) far ≡ frame_among rest frames far
unfolding frame_among
among_after a rest words frames far n = rw (ne_eqb far a n) refl

-- ---- the frame at an address

pub among_found : (l r far : ℕ) (d : List ℕ) (fars : List ℕ) (frames : List (List ℕ)) → Rises l fars → length frames ≡ length fars → r < length fars → get_or fars r 0 ≡ far →
    frame_among fars frames far ≡ Some (get_or frames r d)
among_found l r far d [] frames rises same h e = absurd (omega arith)
among_found l r far d (a ∷ fars) [] rises same h e = absurd (omega arith)
among_found l zero far d (a ∷ fars) (words ∷ frames) rises same h e = among_here a fars words frames far (sym e)
among_found l (suc r) far d (a ∷ fars) (words ∷ frames) (rise _ _ _ le more) same h e =
    let low = later_larger (a + 1) r fars more (omega arith) in
    among_after a fars words frames far (λ there. absurd (omega arith))
    ∙ among_found (a + 1) r far d fars frames more (omega arith) (omega arith) e

pub among_none : (far : ℕ) (fars : List ℕ) (frames : List (List ℕ)) → (Contains fars far → ⊥) → frame_among fars frames far ≡ None
unfolding frame_among
among_none far [] frames out = refl
among_none far (a ∷ fars) [] out = refl
among_none far (a ∷ fars) (words ∷ frames) out =
    among_after a fars words frames far (λ e. out (0, (omega arith), sym e))
    ∙ among_none far fars frames (λ has. out (suc has.0, (let h = has.1 in omega arith), has.2))

-- ---- a frame that is put

pub among_set : (l r far : ℕ) (new : List ℕ) (a : ℕ) (fars : List ℕ) (frames : List (List ℕ)) → Rises l fars → length frames ≡ length fars → r < length fars → get_or fars r 0 ≡ far →
    frame_among fars (set frames r new) a ≡ (if a == far then Some new else frame_among fars frames a)
among_set l r far new a [] frames rises same h e = absurd (omega arith)
among_set l r far new a (b ∷ fars) [] rises same h e = absurd (omega arith)
among_set l zero far new a (b ∷ fars) (words ∷ frames) rises same h e =
    elim (eqb_tells a far) [
      | inl y ↦ rw (eq-eqb a far y.1) (among_here b fars new frames a (y.1 ∙ sym e))
      | inr n ↦ rw (ne_eqb a far n.1) (among_after b fars new frames a (λ x. n.1 (x ∙ e)) ∙ sym (among_after b fars words frames a (λ x. n.1 (x ∙ e))))
    ]
among_set l (suc r) far new a (b ∷ fars) (words ∷ frames) (rise _ _ _ le more) same h e =
    let ih = among_set (b + 1) r far new a fars frames more (omega arith) (omega arith) e in
    let low = later_larger (b + 1) r fars more (omega arith) in
    elim (eqb_tells a b) [
      | inl y ↦ let n : a ≡ far → ⊥ = λ x. (let y1 = y.1 in absurd (omega arith)) in
          rw (ne_eqb a far n) (among_here b fars words (set frames r new) a y.1 ∙ sym (among_here b fars words frames a y.1))
      | inr n ↦ rw (among_after b fars words (set frames r new) a n.1, among_after b fars words frames a n.1) ih
    ]

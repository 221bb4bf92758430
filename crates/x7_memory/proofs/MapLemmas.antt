-- One map over another, and the maps of memories and plans.
use Rattle.std.proofs.Common.{◌≡◌, ℕ, zero, suc, ◌+◌, ◌<◌, ◌⊎◌, inl, inr, List, [], ◌∷◌, ◌++◌, length, get_or, replicate, Bool, true, false, Option, Some, None, refl, sym, ap, ◌∙◌, ◌==◌, if◌then◌else◌, arith}
use Rattle.std.specs.Prelude.{Contains}
use Rattle.std.proofs.lemmas.Bool.Decides.{eqb_tells}
use Rattle.std.proofs.lemmas.List.{get_or-map, length-map, length-append, get_or-append-add, ext_get_or}
use Rattle.std.proofs.lemmas.Option.{none-some, same_Some}
use Rattle.std.specs.Option.{option_or}
use Rattle.x7_part.specs.AddressOrder.{addresses_in}
use Rattle.x7_part.specs.Part.{PartData, frame_words}
use Rattle.x7_memory.specs.FrameMap.{FrameMap, override, single_frame, AreDisjoint, HaveSameFrames}
use Rattle.x7_memory.specs.PartFrames.{frame_among, frame_at, zeros, AreFramesOf}
use Rattle.x7_memory.specs.Plan.{PlanRow, PlanData, AreInOrder, planned, planned_addresses, total}
use Rattle.x7_memory.proofs.FrameLemmas.{among_here, among_after, among_found, among_none}
use Rattle.x7_memory.proofs.PlanLemmas.{no_row, planned_here, planned_after, planned_none}

-- ---- override

or_else_else : (a b c : Option (List ℕ)) → option_or a (option_or b c) ≡ option_or (option_or a b) c
or_else_else None b c = refl
or_else_else (Some words) b c = refl

or_else_same : (a b : Option (List ℕ)) → option_or a (option_or a b) ≡ option_or a b
or_else_same None b = refl
or_else_same (Some words) b = refl

or_else_if : (b : Bool) (words : List ℕ) (m : Option (List ℕ)) → (if b then Some words else m) ≡ option_or (if b then Some words else None) m
or_else_if true words m = refl
or_else_if false words m = refl

pub override_twice : (m p q : FrameMap) → HaveSameFrames (override (override m p) q) (override m (override p q))
override_twice m p q far = or_else_else (q far) (p far) (m far)

or_else_apart : (p q m : Option (List ℕ)) → (p ≡ None) ⊎ (q ≡ None) → option_or q (option_or p m) ≡ option_or p (option_or q m)
or_else_apart None q m apart = refl
or_else_apart (Some words) None m apart = refl
or_else_apart (Some words) (Some others) m (inl e) = absurd (none-some words (sym e))
or_else_apart (Some words) (Some others) m (inr e) = absurd (none-some others (sym e))

pub override_disjoint : (m p q : FrameMap) → AreDisjoint p q → HaveSameFrames (override (override m p) q) (override (override m q) p)
override_disjoint m p q apart far = or_else_apart (p far) (q far) (m far) (apart far)

pub override_again : (m p : FrameMap) → HaveSameFrames (override (override m p) p) (override m p)
override_again m p far = or_else_same (p far) (m far)

pub override_same : (m n p q : FrameMap) → HaveSameFrames m n → HaveSameFrames p q → HaveSameFrames (override m p) (override n q)
override_same m n p q e f far = ap (λ o. option_or o (m far)) (f far) ∙ ap (λ o. option_or (q far) o) (e far)

pub override_one : (m n : FrameMap) (far : ℕ) (words : List ℕ) → ((a : ℕ) → n a ≡ (if a == far then Some words else m a)) → HaveSameFrames n (override m (single_frame far words))
override_one m n far words e a = e a ∙ or_else_if (a == far) words (m a)

-- ---- memories

among_all : (k far : ℕ) (words : List ℕ) (fars : List ℕ) → k < length fars → get_or fars k far ≡ far → frame_among fars (replicate (length fars) words) far ≡ Some words
among_all k far words [] h e = absurd (omega arith)
among_all zero far words (a ∷ fars) h e = among_here a fars words (replicate (length fars) words) far (sym e)
among_all (suc k) far words (a ∷ fars) h e =
    elim (eqb_tells far a) [
      | inl y ↦ among_here a fars words (replicate (length fars) words) far y.1
      | inr n ↦ among_after a fars words (replicate (length fars) words) far n.1 ∙ among_all k far words fars (omega arith) e
    ]

pub zeros_at : (part : PartData) (far : ℕ) → Contains (addresses_in part) far → zeros part far ≡ Some (replicate (frame_words part) 0)
zeros_at part far has = among_all has.0 far (replicate (frame_words part) 0) (addresses_in part) has.1 has.2

pub same_memory : (part : PartData) (m n : List (List ℕ)) → AreFramesOf part m → AreFramesOf part n → HaveSameFrames (frame_at part m) (frame_at part n) → m ≡ n
same_memory part m n are also_are same =
    let cm = are.count in let cn = also_are.count in
    ext_get_or [] m n (omega arith) (λ i h.
    let far = get_or (addresses_in part) i 0 in
    let first = among_found 0 i far [] (addresses_in part) m are.order are.count (omega arith) refl in
    let second = among_found 0 i far [] (addresses_in part) n are.order also_are.count (omega arith) refl in
    same_Some _ _ (sym first ∙ same far ∙ second))

-- ---- plans

some_planned : (rows : List PlanRow) (k far : ℕ) → k < length rows → (get_or rows k no_row).far ≡ far → planned rows far ≡ None → ⊥
some_planned [] k far h e none = absurd (omega arith)
some_planned (row ∷ rows) zero far h e none = none-some row.words (sym none ∙ planned_here row rows far (sym e))
some_planned (row ∷ rows) (suc k) far h e none =
    elim (eqb_tells far row.far) [
      | inl y ↦ none-some row.words (sym none ∙ planned_here row rows far y.1)
      | inr n ↦ some_planned rows k far (omega arith) e (sym (planned_after row rows far n.1) ∙ none)
    ]

pub named_some : (rows : List PlanRow) (far : ℕ) → Contains (planned_addresses rows) far → planned rows far ≡ None → ⊥
named_some rows far has none =
    let long = length-map rows (λ row. row.far) in
    let inside : has.0 < length rows = let h = has.1 in omega arith in
    some_planned rows has.0 far inside (sym (get_or-map (λ row. row.far) rows has.0 no_row far inside) ∙ has.2) none

pub unnamed_none : (rows : List PlanRow) (far : ℕ) → (Contains (planned_addresses rows) far → ⊥) → planned rows far ≡ None
unnamed_none rows far free =
    let long = length-map rows (λ row. row.far) in
    planned_none rows far (λ j h e. free (j, (omega arith), get_or-map (λ row. row.far) rows j no_row far h ∙ e))

pub planned_joined : (before after : List PlanRow) → HaveSameFrames (planned (before ++ after)) (override (planned after) (planned before))
unfolding planned
planned_joined [] after far = refl
planned_joined (row ∷ before) after far =
    elim (eqb_tells far row.far) [
      | inl y ↦ rw (planned_here row (before ++ after) far y.1, planned_here row before far y.1) refl
      | inr n ↦ rw (planned_after row (before ++ after) far n.1, planned_after row before far n.1) (planned_joined before after far)
    ]

pub planned_apart : (before after : List PlanRow) → AreInOrder (before ++ after) → AreDisjoint (planned before) (planned after)
unfolding planned
planned_apart [] after order far = inl refl
planned_apart (row ∷ before) after order far =
    elim (eqb_tells far row.far) [
      | inl y ↦ inr (planned_none after far (λ j h e.
          let long = length-append before after in
          let low = order 0 (suc (length before + j)) no_row (omega arith) (omega arith) in
          let read = ap (λ r. r.far) (get_or-append-add before after j no_row) in
          let here = y.1 in absurd (omega arith)))
      | inr n ↦ elim (planned_apart before after (λ i j d lt inside. order (suc i) (suc j) d (omega arith) (omega arith)) far) [
        | inl e ↦ inl (planned_after row before far n.1 ∙ e)
        | inr e ↦ inr e
      ]
    ]

or_else_some : (a b : Option (List ℕ)) → (a ≡ None → ⊥) → option_or a b ≡ a
or_else_some None b some = absurd (some refl)
or_else_some (Some words) b some = refl

pub total_unplanned : (part : PartData) (plan : PlanData) (far : ℕ) → (Contains (planned_addresses plan.rows) far → ⊥) → total part plan far ≡ zeros part far
total_unplanned part plan far free = ap (λ o. option_or o (zeros part far)) (unnamed_none plan.rows far free)

pub total_planned : (part : PartData) (plan : PlanData) (far : ℕ) → Contains (planned_addresses plan.rows) far → total part plan far ≡ planned plan.rows far
total_planned part plan far has = or_else_some (planned plan.rows far) (zeros part far) (named_some plan.rows far has)

or_else_either : (a b c : Option (List ℕ)) → (a ≡ None → b ≡ c) → option_or a b ≡ option_or a c
or_else_either None b c same = same refl
or_else_either (Some words) b c same = refl

pub override_whole : (part : PartData) (plan : PlanData) (frames : List (List ℕ)) → ((far : ℕ) → Contains (addresses_in part) far → Contains (planned_addresses plan.rows) far) →
    HaveSameFrames (override (frame_at part frames) (planned plan.rows)) (total part plan)
override_whole part plan frames all far = or_else_either (planned plan.rows far) (frame_at part frames far) (zeros part far) (λ none.
    let out : Contains (addresses_in part) far → ⊥ = λ has. named_some plan.rows far (all far has) none in
    among_none far (addresses_in part) frames out ∙ sym (among_none far (addresses_in part) _ out))

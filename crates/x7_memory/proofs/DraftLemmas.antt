-- Rows that are sorted: no two have one address, so they stand in order.
use Rattle.std.proofs.Common.{◌≡◌, ℕ, zero, suc, ◌+◌, ◌<◌, ◌≤◌, inl, inr, List, [], ◌∷◌, length, get_or, refl, sym, ◌∙◌, ◌==◌, eq-eqb, ne_eqb, if◌then◌else◌, arith}
use Rattle.std.specs.Prelude.{IsPermutation}
use Rattle.std.specs.List.{sum_by}
use Rattle.std.specs.List.Sorted.{IsNonDecreasingBy}
use Rattle.std.proofs.lemmas.Bool.Decides.{eqb_tells}
use Rattle.std.proofs.lemmas.List.Sorted.{All-permutation, sum_by-IsPermutation}
use Rattle.std.proofs.lemmas.List.Sums.{sum_by-cons}
use Rattle.x7_memory.specs.Plan.{PlanRow, IsPlan, IsDraft, AreInOrder, AreApart, IsPlanRow}

-- whether a row has the address, and how many rows have it
at : ℕ → PlanRow → ℕ
at a r = if r.far == a then 1 else 0

many : ℕ → List PlanRow → ℕ
many a rows = sum_by (at a) rows

at_yes : (a : ℕ) (r : PlanRow) → r.far ≡ a → at a r ≡ 1
unfolding at
at_yes a r e = rw (eq-eqb r.far a e) refl

at_no : (a : ℕ) (r : PlanRow) → (r.far ≡ a → ⊥) → at a r ≡ 0
unfolding at
at_no a r n = rw (ne_eqb r.far a n) refl

many_cons : (a : ℕ) (r : PlanRow) (rows : List PlanRow) → many a (r ∷ rows) ≡ at a r + many a rows
unfolding many
many_cons a r rows = sum_by-cons (at a) r rows

many_nil : (a : ℕ) → many a [] ≡ 0
unfolding many
many_nil a = refl

many_permutation : (a : ℕ) (rows others : List PlanRow) → IsPermutation rows others → many a others ≡ many a rows
unfolding many
many_permutation a rows others same = sum_by-IsPermutation (at a) rows others same

none : (a : ℕ) (rows : List PlanRow) → ((i : ℕ) (d : PlanRow) → i < length rows → (get_or rows i d).far ≡ a → ⊥) → many a rows ≡ 0
none a [] f = many_nil a
none a (r ∷ rows) f =
    let c = many_cons a r rows in let no = at_no a r (f 0 r (omega arith)) in
    let rest = none a rows (λ i d h. f (suc i) d (omega arith)) in omega arith

apart_tail : (r : PlanRow) (rows : List PlanRow) → AreApart (r ∷ rows) → AreApart rows
apart_tail r rows apart i j d lt h = apart (suc i) (suc j) d (omega arith) (omega arith)

one : (a : ℕ) (rows : List PlanRow) → AreApart rows → many a rows ≤ 1
one a [] apart = let e = many_nil a in omega arith
one a (r ∷ rows) apart =
    let c = many_cons a r rows in
    elim (eqb_tells r.far a) [
      | inl y ↦ let yes = at_yes a r y.1 in
          let rest = none a rows (λ i d h e. apart 0 (suc i) d (omega arith) (omega arith) (y.1 ∙ sym e)) in omega arith
      | inr n ↦ let no = at_no a r n.1 in let rest = one a rows (apart_tail r rows apart) in omega arith
    ]

some : (a : ℕ) (rows : List PlanRow) (i : ℕ) (d : PlanRow) → i < length rows → (get_or rows i d).far ≡ a → 1 ≤ many a rows
some a [] i d h e = absurd (omega arith)
some a (r ∷ rows) zero d h e = let c = many_cons a r rows in let yes = at_yes a r e in omega arith
some a (r ∷ rows) (suc i) d h e = let c = many_cons a r rows in let rest = some a rows i d (omega arith) e in omega arith

two : (a : ℕ) (rows : List PlanRow) (i j : ℕ) (d : PlanRow) → i < j → j < length rows → (get_or rows i d).far ≡ a → (get_or rows j d).far ≡ a → 2 ≤ many a rows
two a [] i j d lt h e f = absurd (omega arith)
two a (r ∷ rows) zero zero d lt h e f = absurd (omega arith)
two a (r ∷ rows) zero (suc j) d lt h e f =
    let c = many_cons a r rows in let yes = at_yes a r e in let rest = some a rows j d (omega arith) f in omega arith
two a (r ∷ rows) (suc i) zero d lt h e f = absurd (omega arith)
two a (r ∷ rows) (suc i) (suc j) d lt h e f =
    let c = many_cons a r rows in let rest = two a rows i j d (omega arith) (omega arith) e f in omega arith

pub sorted_in_order : (rows sorted : List PlanRow) → AreApart rows → IsPermutation rows sorted → IsNonDecreasingBy (λ r. r.far) sorted → AreInOrder sorted
sorted_in_order rows sorted apart same rising i j d lt h =
    let low : (get_or sorted i d).far ≤ (get_or sorted j d).far = rising i j d (omega arith) h in
    elim (eqb_tells (get_or sorted i d).far (get_or sorted j d).far) [
      | inl y ↦
          let a = (get_or sorted j d).far in
          let twice = two a sorted i j d lt h y.1 refl in
          let once = one a rows apart in
          let e : many a sorted ≡ many a rows = many_permutation a rows sorted same in absurd (omega arith)
      | inr n ↦ let ne = n.1 in omega arith
    ]

pub sorted_plan : (width : ℕ) (rows sorted : List PlanRow) → IsDraft record { width = width; rows = rows } → AreApart rows → IsPermutation rows sorted → IsNonDecreasingBy (λ r. r.far) sorted →
    IsPlan record { width = width; rows = sorted }
sorted_plan width rows sorted is apart same rising = record {
  order = sorted_in_order rows sorted apart same rising;
  width = All-permutation (λ r. length r.words ≡ width) rows sorted same is.width;
  each = All-permutation IsPlanRow rows sorted same is.each;
}

-- Rows put in the order of their addresses.
use Rattle.std.proofs.Common.{◌≡◌, ℕ, zero, suc, ◌≤◌, ◌<◌, ◌⊎◌, inl, inr, List, [], ◌∷◌, arith}
use Rattle.std.specs.Prelude.{IsPermutation}
use Rattle.std.specs.List.{AllByRecursion}
use Rattle.std.specs.List.Sorted.{IsNonDecreasingBy}
use Rattle.std.proofs.lemmas.Bool.{cases_order}
use Rattle.std.proofs.lemmas.List.Elements.{All-from_recursion}
use Rattle.std.proofs.lemmas.List.Sorted.{IsPermutation-refl, IsPermutation-sym, IsPermutation-cons, IsPermutation-trans, IsPermutation-middle}
use Rattle.x7_memory.specs.Plan.{PlanRow}

-- none of the rows has an address below this one
abbrev AreFrom : ℕ → List PlanRow → Type 0
AreFrom n rows = AllByRecursion (λ r. n ≤ r.far) rows

from_less : (n m : ℕ) (rows : List PlanRow) → n ≤ m → AreFrom m rows → AreFrom n rows
from_less n m [] l h = tt
from_less n m (r ∷ rows) l h = (omega (arith, l, h.0), from_less n m rows l h.1)

-- no row has an address below that of one before it
abbrev Rising : List PlanRow → Type 0
Rising [] = Unit {0}
Rising (r ∷ rows) = AreFrom r.far rows × Rising rows

-- a row put among rising ones
record PutIn (row : PlanRow) (rows : List PlanRow) : Type 0 where
  all : List PlanRow
  same : IsPermutation (row ∷ rows) all
  rising : Rising all
  from : (n : ℕ) → n ≤ row.far → AreFrom n rows → AreFrom n all

first : (row : PlanRow) (rows : List PlanRow) → AreFrom row.far rows → Rising rows → PutIn row rows
first row rows low rising = record { all = row ∷ rows; same = IsPermutation-refl (row ∷ rows); rising = (low, rising); from = λ n l h. (l, h) }

later : (row s : PlanRow) (rows : List PlanRow) → s.far < row.far → AreFrom s.far rows → PutIn row rows → PutIn row (s ∷ rows)
later row s rows less low p = record {
  all = s ∷ p.all;
  same =
      IsPermutation-trans (row ∷ s ∷ rows) (s ∷ row ∷ rows) (s ∷ p.all) (IsPermutation-sym (s ∷ row ∷ rows) (row ∷ s ∷ rows) (IsPermutation-middle (s ∷ []) row rows))
      (IsPermutation-cons s (row ∷ rows) p.all p.same);
  rising = (p.from s.far (omega (arith, less)) low, p.rising);
  from = λ n l h. (h.0, p.from n l h.1);
}

put_in : (row : PlanRow) (rows : List PlanRow) → Rising rows → PutIn row rows
put_in row [] h = first row [] tt tt
put_in row (s ∷ rows) h = by (put_in row rows h.1) (cases_order s.far row.far)
  where
    before : row.far ≤ s.far → PutIn row (s ∷ rows)
    before l = first row (s ∷ rows) (l, from_less row.far s.far rows l h.0) h

    by : PutIn row rows → (s.far ≡ row.far) ⊎ ((s.far < row.far) ⊎ (row.far < s.far)) → PutIn row (s ∷ rows)
    by rest (inl e) = before (omega (arith, e))
    by rest (inr (inl l)) = later row s rows l h.0 rest
    by rest (inr (inr g)) = before (omega (arith, g))

rising_sorted : (rows : List PlanRow) → Rising rows → IsNonDecreasingBy (λ r. r.far) rows
rising_sorted [] h i j d k l = absurd (omega (arith, l))
rising_sorted (r ∷ rows) h zero zero d k l = omega arith
rising_sorted (r ∷ rows) h zero (suc j) d k l = All-from_recursion (λ s. r.far ≤ s.far) rows h.0 j d (omega (arith, l))
rising_sorted (r ∷ rows) h (suc i) zero d k l = absurd (omega (arith, k))
rising_sorted (r ∷ rows) h (suc i) (suc j) d k l = rising_sorted rows h.1 i j d (omega (arith, k)) (omega (arith, l))

record Ordered (rows : List PlanRow) : Type 0 where
  all : List PlanRow
  same : IsPermutation rows all
  rising : Rising all

ordered : (rows : List PlanRow) → Ordered rows
ordered [] = record { all = []; same = IsPermutation-refl []; rising = tt }
ordered (r ∷ rows) =
    let o = ordered rows in
    let p = put_in r o.all o.rising in
    record { all = p.all; same = IsPermutation-trans (r ∷ rows) (r ∷ o.all) p.all (IsPermutation-cons r rows o.all o.same) p.same; rising = p.rising }

-- the rows of a list in the order of their addresses
pub record HasSorted (rows : List PlanRow) : Type 0 where
  pub sorted : List PlanRow
  pub same : IsPermutation rows sorted
  pub rises : IsNonDecreasingBy (λ r. r.far) sorted

pub has_sorted : (rows : List PlanRow) → HasSorted rows
has_sorted rows = let o = ordered rows in record { sorted = o.all; same = o.same; rises = rising_sorted o.all o.rising }

-- Rows in the order of their numbers: sorted rows are the one list that has them in order.
use Rattle.std.proofs.Common.{◌≡◌, ℕ, zero, suc, ◌+◌, ◌^◌, ◌≤◌, ◌<◌, List, [], ◌∷◌, Bool, true, false, refl, ap, ap₂, sym, ◌∙◌, arith, inl, inr, ◌⊎◌}
use Rattle.std.specs.Prelude.{if◌then◌else◌, nat_lt, nat_eq, IsPermutation}
use Rattle.std.specs.List.{AllByRecursion, sum_by}
use Rattle.std.specs.List.Sorted.{IsNonDecreasingBy}
use Rattle.std.proofs.lemmas.Bool.Decides.{nat_tests}
use Rattle.std.proofs.lemmas.List.Elements.{All-from_recursion, recursion_from_All}
use Rattle.std.proofs.lemmas.List.Sorted.{All-permutation, IsPermutation-refl, IsPermutation-sym, IsPermutation-cons, IsPermutation-trans, IsPermutation-middle, sum_by-IsPermutation}
use Rattle.std.proofs.lemmas.List.Sums.{sum_by-cons}
use Rattle.x7_part.specs.Address.{AreRows, row, row_address, row_low}
use Rattle.x7_part.specs.Part.{FieldWidths, RowData}
use Rattle.x7_part.specs.Row.{sorted_rows, put_in}
use Rattle.x7_part.proofs.WidthLemmas.{some_weight}

-- a row is one of the rows
In : RowData → List RowData → Type 0
In r [] = ⊥
In r (s ∷ rows) = (r ≡ s) ⊎ In r rows

-- whether a row has the address, and how many rows have it
at : FieldWidths → ℕ → RowData → ℕ
at widths a r = if nat_eq (row_address widths r) a then 1 else 0

many : FieldWidths → ℕ → List RowData → ℕ
many widths a [] = 0
many widths a (r ∷ rows) = at widths a r + many widths a rows

-- no row has a smaller address than one before it
unfoldable pub Rising : FieldWidths → List RowData → Type 0
Rising widths [] = Unit {0}
Rising widths (r ∷ rows) = AllByRecursion (λ s. row_address widths r ≤ row_address widths s) rows × Rising widths rows

each : (P Q : RowData → Type 0) → ((r : RowData) → P r → Q r) → (rows : List RowData) → AllByRecursion P rows → AllByRecursion Q rows
each P Q f [] h = tt
each P Q f (r ∷ rows) h = (f r h.0, each P Q f rows h.1)

put_all : (widths : FieldWidths) (P : RowData → Type 0) (r : RowData) (rows : List RowData) → P r → AllByRecursion P rows → AllByRecursion P (put_in widths r rows)
put_all widths P r [] p h = (p, tt)
put_all widths P r (s ∷ rows) p h = by (nat_lt (row_address widths s) (row_address widths r)) (put_all widths P r rows p h.1)
  where
    by : (b : Bool) → AllByRecursion P (put_in widths r rows) → AllByRecursion P (if b then s ∷ put_in widths r rows else r ∷ s ∷ rows)
    by true more = (h.0, more)
    by false more = (p, h)

put_many : (widths : FieldWidths) (a : ℕ) (r : RowData) (rows : List RowData) → many widths a (put_in widths r rows) ≡ at widths a r + many widths a rows
unfolding many
put_many widths a r [] = refl
put_many widths a r (s ∷ rows) = by (nat_lt (row_address widths s) (row_address widths r)) (put_many widths a r rows)
  where
    by : (b : Bool) → many widths a (put_in widths r rows) ≡ at widths a r + many widths a rows → many widths a (if b then s ∷ put_in widths r rows else r ∷ s ∷ rows) ≡ at widths a r + (at widths a s + many widths a rows)
    by true more = ap (λ n. at widths a s + n) more ∙ omega arith
    by false more = refl

put_rising : (widths : FieldWidths) (r : RowData) (rows : List RowData) → Rising widths rows → Rising widths (put_in widths r rows)
unfolding Rising
put_rising widths r [] h = (tt, tt)
put_rising widths r (s ∷ rows) h = by (nat_lt (row_address widths s) (row_address widths r)) refl (put_rising widths r rows h.1)
  where
    by : (b : Bool) → nat_lt (row_address widths s) (row_address widths r) ≡ b → Rising widths (put_in widths r rows) → Rising widths (if b then s ∷ put_in widths r rows else r ∷ s ∷ rows)
    by true e more =
        let less : row_address widths s ≤ row_address widths r = grind (arith, nat_tests, e) in
        (put_all widths (λ t. row_address widths s ≤ row_address widths t) r rows less h.0, more)
    by false e more =
        let less : row_address widths r ≤ row_address widths s = grind (arith, nat_tests, e) in
        ((less, each (λ t. row_address widths s ≤ row_address widths t) (λ t. row_address widths r ≤ row_address widths t) (λ t k. omega (arith, k, less)) rows h.0), h)

ordered_all : (widths : FieldWidths) (P : RowData → Type 0) (rows : List RowData) → AllByRecursion P rows → AllByRecursion P (sorted_rows widths rows)
unfolding sorted_rows
ordered_all widths P [] h = tt
ordered_all widths P (r ∷ rows) h = put_all widths P r (sorted_rows widths rows) h.0 (ordered_all widths P rows h.1)

ordered_many : (widths : FieldWidths) (a : ℕ) (rows : List RowData) → many widths a (sorted_rows widths rows) ≡ many widths a rows
unfolding sorted_rows many
ordered_many widths a [] = refl
ordered_many widths a (r ∷ rows) = put_many widths a r (sorted_rows widths rows) ∙ ap (λ n. at widths a r + n) (ordered_many widths a rows)

pub ordered_rises : (widths : FieldWidths) (rows : List RowData) → Rising widths (sorted_rows widths rows)
unfolding sorted_rows Rising
ordered_rises widths [] = tt
ordered_rises widths (r ∷ rows) = put_rising widths r (sorted_rows widths rows) (ordered_rises widths rows)

at_itself : (widths : FieldWidths) (r : RowData) → at widths (row_address widths r) r ≡ 1
unfolding at
at_itself widths r = grind (arith, nat_tests)

at_other : (widths : FieldWidths) (a : ℕ) (r : RowData) → a < row_address widths r → at widths a r ≡ 0
unfolding at
at_other widths a r k = grind (arith, nat_tests)

none_at : (widths : FieldWidths) (a : ℕ) (rows : List RowData) → AllByRecursion (λ s. a < row_address widths s) rows → many widths a rows ≡ 0
unfolding many
none_at widths a [] h = refl
none_at widths a (r ∷ rows) h = omega (arith, at_other widths a r h.0, none_at widths a rows h.1)

-- rows in number order have addresses from the least on
pub from_least : (widths : FieldWidths) (least : ℕ) (rows : List RowData) → AreRows widths least rows → AllByRecursion (λ s. least ≤ row_address widths s) rows
from_least widths least [] h = tt
from_least widths least (r ∷ rows) (row f l s more k in_range rest) =
    (k, each (λ t. row_address widths r + 2 ^ row_low widths ≤ row_address widths t) (λ t. least ≤ row_address widths t) (λ t j. omega (arith, j, k)) rows (from_least widths (row_address widths r + 2 ^ row_low widths) rows rest))

-- what holds of the addresses of all rows holds of the address of each of them
address_of : (widths : FieldWidths) (P : ℕ → Type 0) (r : RowData) (rows : List RowData) → In r rows → AllByRecursion (λ s. P (row_address widths s)) rows → P (row_address widths r)
unfolding In
address_of widths P r [] h all = absurd h
address_of widths P r (s ∷ rows) (inl e) all = rw e all.0
address_of widths P r (s ∷ rows) (inr h) all = address_of widths P r rows h all.1

-- two lists of the same rows, one in number order and the other rising, are one
same_rows : (widths : FieldWidths) (rising rows : List RowData) (least : ℕ) → AreRows widths least rows → Rising widths rising → AllByRecursion (λ r. In r rows) rising → ((a : ℕ) → many widths a rising ≡ many widths a rows) → rising ≡ rows
unfolding In many Rising
same_rows widths [] [] least strict up all count = refl
same_rows widths [] (r ∷ rows) least strict up all count = absurd (omega (arith, count (row_address widths r), at_itself widths r))
same_rows widths (x ∷ rising) [] least strict up all count = absurd all.0
same_rows widths (x ∷ rising) (r ∷ rows) least (row f l s more k in_range rest) up all count =
    ap₂ ◌∷◌ first (same_rows widths rising rows (row_address widths r + 2 ^ row_low widths) rest up.1 later fewer)
  where
    above : AllByRecursion (λ t. row_address widths r < row_address widths t) rows
    above = each (λ t. row_address widths r + 2 ^ row_low widths ≤ row_address widths t) (λ t. row_address widths r < row_address widths t) (λ t j. omega (arith, j, some_weight widths)) rows (from_least widths (row_address widths r + 2 ^ row_low widths) rows rest)

    head : In x (r ∷ rows) → x ≡ r
    head (inl e) = e
    head (inr h) =
        let higher : row_address widths r < row_address widths x = address_of widths (λ n. row_address widths r < n) x rows h above in
        let beyond : AllByRecursion (λ t. row_address widths r < row_address widths t) (x ∷ rising) = (higher, each (λ t. row_address widths x ≤ row_address widths t) (λ t. row_address widths r < row_address widths t) (λ t j. omega (arith, j, higher)) rising up.0) in
        absurd (omega (arith, count (row_address widths r), none_at widths (row_address widths r) (x ∷ rising) beyond, at_itself widths r))

    first : x ≡ r
    first = head all.0

    fewer : (a : ℕ) → many widths a rising ≡ many widths a rows
    fewer a = omega (arith, count a, ap (at widths a) first)

    none_here : many widths (row_address widths r) rising ≡ 0
    none_here = fewer (row_address widths r) ∙ none_at widths (row_address widths r) rows above

    later_by : (ts : List RowData) → many widths (row_address widths r) ts ≡ 0 → AllByRecursion (λ t. In t (r ∷ rows)) ts → AllByRecursion (λ t. In t rows) ts
    later_by [] m h = tt
    later_by (t ∷ ts) m h = (one h.0, later_by ts (omega (arith, m)) h.1)
      where
        one : In t (r ∷ rows) → In t rows
        one (inl e) = absurd (omega (arith, m, ap (at widths (row_address widths r)) e, at_itself widths r))
        one (inr j) = j

    later : AllByRecursion (λ t. In t rows) rising
    later = later_by rising none_here all.1

all_in : (rows all : List RowData) → ((r : RowData) → In r rows → In r all) → AllByRecursion (λ r. In r all) rows
unfolding In
all_in [] all f = tt
all_in (r ∷ rows) all f = (f r (inl refl), all_in rows all (λ s h. f s (inr h)))

many_is : (widths : FieldWidths) (a : ℕ) (rows : List RowData) → many widths a rows ≡ sum_by (at widths a) rows
unfolding many
many_is widths a [] = refl
many_is widths a (r ∷ rows) = ap (λ n. at widths a r + n) (many_is widths a rows) ∙ sym (sum_by-cons (at widths a) r rows)

-- rows in number order are what `sorted_rows` makes of the same rows in any order
pub sorted_is : (widths : FieldWidths) (rows sorted : List RowData) (least : ℕ) → IsPermutation rows sorted → AreRows widths least sorted → sorted_rows widths rows ≡ sorted
sorted_is widths rows sorted least same strict =
    same_rows widths (sorted_rows widths rows) sorted least strict (ordered_rises widths rows)
    (ordered_all widths (λ r. In r sorted) rows (recursion_from_All (λ r. In r sorted) rows (All-permutation (λ r. In r sorted) sorted rows (IsPermutation-sym rows sorted same) (All-from_recursion (λ r. In r sorted) sorted (all_in sorted sorted (λ r h. h))))))
    (λ a. ordered_many widths a rows ∙ many_is widths a rows ∙ sym (sum_by-IsPermutation (at widths a) rows sorted same) ∙ sym (many_is widths a sorted))

-- ---- put in order

put_same : (widths : FieldWidths) (r : RowData) (rows : List RowData) → IsPermutation (r ∷ rows) (put_in widths r rows)
put_same widths r [] = IsPermutation-refl (r ∷ [])
put_same widths r (s ∷ rows) = by (nat_lt (row_address widths s) (row_address widths r)) (put_same widths r rows)
  where
    by : (b : Bool) → IsPermutation (r ∷ rows) (put_in widths r rows) → IsPermutation (r ∷ s ∷ rows) (if b then s ∷ put_in widths r rows else r ∷ s ∷ rows)
    by true same =
        IsPermutation-trans (r ∷ s ∷ rows) (s ∷ r ∷ rows) (s ∷ put_in widths r rows) (IsPermutation-sym (s ∷ r ∷ rows) (r ∷ s ∷ rows) (IsPermutation-middle (s ∷ []) r rows))
        (IsPermutation-cons s (r ∷ rows) (put_in widths r rows) same)
    by false same = IsPermutation-refl (r ∷ s ∷ rows)

pub ordered_same : (widths : FieldWidths) (rows : List RowData) → IsPermutation rows (sorted_rows widths rows)
unfolding sorted_rows
ordered_same widths [] = IsPermutation-refl []
ordered_same widths (r ∷ rows) =
    IsPermutation-trans (r ∷ rows) (r ∷ sorted_rows widths rows) (put_in widths r (sorted_rows widths rows)) (IsPermutation-cons r rows (sorted_rows widths rows) (ordered_same widths rows)) (put_same widths r (sorted_rows widths rows))

rising_sorted : (widths : FieldWidths) (rows : List RowData) → Rising widths rows → IsNonDecreasingBy (row_address widths) rows
unfolding Rising
rising_sorted widths [] h i j d k l = absurd (omega (arith, l))
rising_sorted widths (r ∷ rows) h zero zero d k l = omega arith
rising_sorted widths (r ∷ rows) h zero (suc j) d k l = All-from_recursion (λ s. row_address widths r ≤ row_address widths s) rows h.0 j d (omega (arith, l))
rising_sorted widths (r ∷ rows) h (suc i) zero d k l = absurd (omega (arith, k))
rising_sorted widths (r ∷ rows) h (suc i) (suc j) d k l = rising_sorted widths rows h.1 i j d (omega (arith, k)) (omega (arith, l))

pub ordered_sorted : (widths : FieldWidths) (rows : List RowData) → IsNonDecreasingBy (row_address widths) (sorted_rows widths rows)
ordered_sorted widths rows = rising_sorted widths (sorted_rows widths rows) (ordered_rises widths rows)

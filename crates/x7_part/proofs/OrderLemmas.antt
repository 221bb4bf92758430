-- Rows in range, no two of them the same, in number order.
use Rattle.std.proofs.Common.{◌≡◌, ℕ, zero, suc, ◌+◌, ◌^◌, ◌<◌, ◌≤◌, inl, inr, List, [], ◌∷◌, ◌++◌, length, get_or, Bool, true, false, not, eqb, eq-eqb, ne_eqb, Option, Some, None, refl, sym, ap, ◌∙◌, arith, append_assoc}
use Rattle.std.specs.Prelude.{All, sum, cond}
use Rattle.std.specs.List.{sum_by}
use Rattle.std.specs.List.Sorted.{IsPermutation, IsNonDecreasingBy}
use Rattle.std.proofs.lemmas.Bool.{false≢true, or_parts}
use Rattle.std.proofs.lemmas.Bool.Decides.{eqb_tells}
use Rattle.std.proofs.lemmas.Option.{none-some}
use Rattle.std.proofs.lemmas.List.{append-nil}
use Rattle.std.proofs.lemmas.List.Elements.{All-head, All-tail, All-nil, All-push}
use Rattle.std.proofs.lemmas.List.Sums.{sum_by-cons, sum_by-append}
use Rattle.std.proofs.lemmas.List.Sorted.{sum_by-IsPermutation, All-permutation}
use Rattle.x7_part.specs.declared.fault.PartFault.{PartFault}
use Rattle.x7_part.specs.declared.fault.PartFault.TheVariants.{SameRow}
use Rattle.x7_part.specs.Part.{FieldWidths, RowData}
use Rattle.x7_part.specs.Address.{row_address, row_low, AreWidths, IsRow, AreRows, no_row, row}
use Rattle.x7_part.specs.AddressOrder.{addresses}
use Rattle.x7_part.specs.PartChecks.{unless, first_of}
use Rattle.x7_part.specs.Row.{is_same_row, has_same_row, same_row_fault}
use Rattle.x7_part.proofs.TableLemmas.{frames_cons}
use Rattle.x7_part.proofs.WidthLemmas.{Order, rows_same, row_before, row_after, order_of, gap, some_weight}

-- ---- checks that found nothing

pub unless_none : (b : Bool) (fault : PartFault) → unless b fault ≡ None → b ≡ true
unless_none true fault e = refl
unless_none false fault e = absurd (none-some fault (sym e))

pub first_none : (o : Option PartFault) (rest : List (Option PartFault)) → first_of (o ∷ rest) ≡ None → (o ≡ None) × (first_of rest ≡ None)
first_none None rest e = (refl, e)
first_none (Some fault) rest e = absurd (none-some fault (sym e))

-- ---- rows by their addresses

same_from : (widths : FieldWidths) (r s : RowData) → AreWidths widths → IsRow r → IsRow s → row_address widths s ≡ row_address widths r → is_same_row r s ≡ true
same_from widths r s w a c e = by (order_of widths r s w a c)
  where
    some : 1 ≤ 2 ^ row_low widths
    some = some_weight widths

    by : Order widths r s → is_same_row r s ≡ true
    by (rows_same block half n) = rw (eq-eqb r.block s.block block, eq-eqb r.half s.half half, eq-eqb r.row s.row n) refl
    by (row_before k) = absurd (omega (arith, k, e, some))
    by (row_after k) = absurd (omega (arith, k, e, some))

-- whether a row has the address, and how many rows have it
at : FieldWidths → ℕ → RowData → ℕ
at widths a r = cond (eqb (row_address widths r) a) 1 0

many : FieldWidths → ℕ → List RowData → ℕ
unfolding at
many widths a rows = sum_by (at widths a) rows

at_yes : (widths : FieldWidths) (a : ℕ) (r : RowData) → row_address widths r ≡ a → at widths a r ≡ 1
unfolding at
at_yes widths a r e = rw (eq-eqb (row_address widths r) a e) refl

at_no : (widths : FieldWidths) (a : ℕ) (r : RowData) → (row_address widths r ≡ a → ⊥) → at widths a r ≡ 0
unfolding at
at_no widths a r n = rw (ne_eqb (row_address widths r) a n) refl

many_cons : (widths : FieldWidths) (a : ℕ) (r : RowData) (rows : List RowData) → many widths a (r ∷ rows) ≡ at widths a r + many widths a rows
unfolding many
many_cons widths a r rows = sum_by-cons (at widths a) r rows

many_push : (widths : FieldWidths) (a : ℕ) (r : RowData) (rows : List RowData) → many widths a (rows ++ r ∷ []) ≡ many widths a rows + at widths a r
unfolding many
many_push widths a r rows = sum_by-append (at widths a) rows (r ∷ []) ∙ ap (λ n. sum_by (at widths a) rows + n) (sum_by-cons (at widths a) r [] ∙ (omega arith))

not_true : (b : Bool) → not b ≡ true → b ≡ false
not_true false e = refl
not_true true e = absurd (false≢true e)

not_there : (widths : FieldWidths) (r : RowData) (rows : List RowData) → AreWidths widths → IsRow r → All IsRow rows → has_same_row r rows ≡ false → many widths (row_address widths r) rows ≡ 0
unfolding many
not_there widths r [] w is all e = refl
not_there widths r (s ∷ rows) w is all e =
    let p = or_parts (is_same_row r s) (has_same_row r rows) e in
    let no = at_no widths (row_address widths r) s (λ same. false≢true (sym p.0 ∙ same_from widths r s w is (All-head IsRow s rows all) same)) in
    let ih = not_there widths r rows w is (All-tail IsRow s rows all) p.1 in
    let c = many_cons widths (row_address widths r) s rows in
    omega arith

-- no two rows have one address
Apart : FieldWidths → List RowData → Type 0
unfolding many
Apart widths rows = (a : ℕ) → many widths a rows ≤ 1

apart_push : (widths : FieldWidths) (r : RowData) (rows : List RowData) → Apart widths rows → many widths (row_address widths r) rows ≡ 0 → Apart widths (rows ++ r ∷ [])
unfolding Apart
apart_push widths r rows apart none a =
    let p = many_push widths a r rows in
    elim (eqb_tells (row_address widths r) a) [
      | inl e ↦ let yes = at_yes widths a r e.1 in let n : many widths a rows ≡ 0 = ap (λ x. many widths x rows) (sym e.1) ∙ none in omega arith
      | inr n ↦ let no = at_no widths a r n.1 in let h = apart a in omega arith
    ]

apart_rows : (widths : FieldWidths) (earlier rows : List RowData) → AreWidths widths → All IsRow earlier → All IsRow rows → same_row_fault earlier rows ≡ None → Apart widths earlier → Apart widths (earlier ++ rows)
apart_rows widths earlier [] w before all e apart = rw (append-nil earlier) apart
apart_rows widths earlier (r ∷ rows) w before all e apart =
    let p = first_none (unless (not (has_same_row r earlier)) (SameRow (length earlier + 1))) (same_row_fault (earlier ++ r ∷ []) rows ∷ []) e in
    let no = not_true (has_same_row r earlier) (unless_none (not (has_same_row r earlier)) (SameRow (length earlier + 1)) p.0) in
    let q = first_none (same_row_fault (earlier ++ r ∷ []) rows) [] p.1 in
    let is = All-head IsRow r rows all in
    let more = apart_rows widths (earlier ++ r ∷ []) rows w (All-push IsRow earlier r before is) (All-tail IsRow r rows all) q.0
    (apart_push widths r earlier apart (not_there widths r earlier w is before no)) in
    rw (← append_assoc earlier (r ∷ []) rows) more

-- ---- rows in order

has_one : (widths : FieldWidths) (a k : ℕ) (rows : List RowData) (d : RowData) → k < length rows → row_address widths (get_or rows k d) ≡ a → 1 ≤ many widths a rows
has_one widths a k [] d h e = absurd (omega arith)
has_one widths a zero (r ∷ rows) d h e = let c = many_cons widths a r rows in let yes = at_yes widths a r e in omega arith
has_one widths a (suc k) (r ∷ rows) d h e = let c = many_cons widths a r rows in let ih = has_one widths a k rows d (omega arith) e in omega arith

sorted_tail : (widths : FieldWidths) (r : RowData) (rows : List RowData) → IsNonDecreasingBy (row_address widths) (r ∷ rows) → IsNonDecreasingBy (row_address widths) rows
sorted_tail widths r rows sorted i j d k h = sorted (suc i) (suc j) d (omega arith) (omega arith)

apart_tail : (widths : FieldWidths) (r : RowData) (rows : List RowData) → Apart widths (r ∷ rows) → Apart widths rows
unfolding Apart
apart_tail widths r rows apart a = let c = many_cons widths a r rows in let h = apart a in omega arith

above : (widths : FieldWidths) (r : RowData) (rows : List RowData) → AreWidths widths → All IsRow (r ∷ rows) → IsNonDecreasingBy (row_address widths) (r ∷ rows) → Apart widths (r ∷ rows) →
    All (λ s. row_address widths r + 2 ^ row_low widths ≤ row_address widths s) rows
unfolding Apart
above widths r rows w all sorted apart k d h =
    let s = get_or rows k d in
    let low : row_address widths r ≤ row_address widths s = sorted 0 (suc k) d (omega arith) (omega arith) in
    let is = All-tail IsRow r rows all k d h in
    elim (eqb_tells (row_address widths s) (row_address widths r)) [
      | inl e ↦ let one = has_one widths (row_address widths r) k rows d h e.1 in
          let c = many_cons widths (row_address widths r) r rows in let yes = at_yes widths (row_address widths r) r refl in
          let two = apart (row_address widths r) in absurd (omega arith)
      | inr n ↦ gap widths r s w (All-head IsRow r rows all) is (let ne = n.1 in omega arith)
    ]

in_order : (widths : FieldWidths) (least : ℕ) (rows : List RowData) → AreWidths widths → All IsRow rows → IsNonDecreasingBy (row_address widths) rows → Apart widths rows → All (λ s. least ≤ row_address widths s) rows → AreRows widths least rows
in_order widths least [] w all sorted apart low = no_row widths least
in_order widths least (r ∷ rows) w all sorted apart low =
    row widths least r rows (All-head (λ s. least ≤ row_address widths s) r rows low) (All-head IsRow r rows all)
    (in_order widths (row_address widths r + 2 ^ row_low widths) rows w (All-tail IsRow r rows all) (sorted_tail widths r rows sorted) (apart_tail widths r rows apart) (above widths r rows w all sorted apart))

apart_permutation : (widths : FieldWidths) (rows sorted : List RowData) → IsPermutation rows sorted → Apart widths rows → Apart widths sorted
unfolding Apart many
apart_permutation widths rows sorted p apart a = let e = sum_by-IsPermutation (at widths a) rows sorted p in let h = apart a in omega arith

apart_none : (widths : FieldWidths) → Apart widths []
unfolding Apart many
apart_none widths a = omega arith

-- rows in range of which no two are the same, once sorted, stand in number order
pub ordered : (widths : FieldWidths) (rows sorted : List RowData) → AreWidths widths → All IsRow rows → same_row_fault [] rows ≡ None → IsPermutation rows sorted → IsNonDecreasingBy (row_address widths) sorted → AreRows widths 0 sorted
ordered widths rows sorted w all e p order =
    in_order widths 0 sorted w (All-permutation IsRow rows sorted p all) order
    (apart_permutation widths rows sorted p (apart_rows widths [] rows w (All-nil IsRow) all e (apart_none widths))) (λ k d h. omega arith)

pub frames_sum : (widths : FieldWidths) (rows : List RowData) → length (addresses widths rows) ≡ sum_by (λ r. sum r.minors) rows
unfolding addresses
frames_sum widths [] = refl
frames_sum widths (r ∷ rows) = frames_cons widths r rows ∙ ap (λ n. sum r.minors + n) (frames_sum widths rows) ∙ sym (sum_by-cons (λ r. sum r.minors) r rows)

pub frames_permutation : (widths : FieldWidths) (rows sorted : List RowData) → IsPermutation rows sorted → length (addresses widths sorted) ≡ length (addresses widths rows)
frames_permutation widths rows sorted p = frames_sum widths sorted ∙ sum_by-IsPermutation (λ r. sum r.minors) rows sorted p ∙ sym (frames_sum widths rows)

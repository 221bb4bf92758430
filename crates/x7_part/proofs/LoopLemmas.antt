-- Values that a loop takes one by one, and the first fault among them.
use Rattle.std.proofs.Common.{◌≡◌, ℕ, List, [], ◌∷◌, ◌++◌, map, append_assoc, Option, None, Some, refl, sym, ◌∙◌}
use Rattle.x7_part.specs.declared.fault.PartFault.{PartFault}
use Rattle.x7_part.specs.PartChecks.{next_row_number, rows_fault}
use Rattle.x7_part.proofs.FirstLemmas.{first_alone}

-- ---- rows

-- where a check finds no fault in row n, its fault in the rows from row n on is that in the rows after it
pub row_passed : {R : Type 0} (check : ℕ → R → Option PartFault) (n next : ℕ) (row : R) (rest rows : List R) → rows ≡ row ∷ rest → check n row ≡ None → next ≡ next_row_number n →
    rows_fault check next rest ≡ rows_fault check n rows
row_passed check n next row rest rows first none counted = rw (first, none, counted) (first_alone (rows_fault check (next_row_number n) rest))

-- where a check finds a fault in row n, this is its fault in the rows from row n on
pub row_stops : {R : Type 0} (check : ℕ → R → Option PartFault) (n : ℕ) (row : R) (rest rows : List R) (fault : PartFault) (due : Option PartFault) → rows ≡ row ∷ rest →
    rows_fault check n rows ≡ due → check n row ≡ Some fault → due ≡ Some fault
row_stops check n row rest rows fault due first all found = sym all ∙ rw (first, found) refl

-- what was made of rows and what is to be made of those to come, once one more is made
pub row_made : {R T : Type 0} (of : R → T) (row : R) (rest rows : List R) (before made : List T) → rows ≡ row ∷ rest → made ≡ before ++ of row ∷ [] →
    made ++ map of rest ≡ before ++ map of rows
row_made of row rest rows before made first e = rw (first, e) (append_assoc before (of row ∷ []) (map of rest))

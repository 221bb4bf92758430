-- The table of a part's columns, row by row.
use Rattle.std.proofs.Common.{◌≡◌, ℕ, ◌+◌, ◌*◌, ◌^◌, ◌<◌, List, [], ◌∷◌, ◌++◌, length, refl, sym, ap, ◌∙◌, arith, length-append, append_assoc, get_or, drop}
use Rattle.std.specs.Prelude.{sum}
use Rattle.std.proofs.lemmas.List.{drop_more}
use Rattle.std.proofs.lemmas.List.Sums.{sum_by-cons}
use Rattle.x7_part.specs.Part.{FieldWidths, RowData}
use Rattle.x7_part.specs.Address.{row_address, column_low}
use Rattle.x7_part.specs.AddressOrder.{count_from, row_addresses, addresses_of, addresses}
use Rattle.x7_part.specs.Column.{row_columns, table_of}
use Rattle.x7_part.specs.Slot.{pads_after_row}
use Rattle.x7_part.proofs.ColumnLemmas.{length_count_from}
use Rattle.x7_part.specs.declared.column.Column.{Column}

-- a row has as many addresses as its minors' sum
pub row_length : (pitch base i : ℕ) (minors : List ℕ) → length (row_addresses pitch base i minors) ≡ sum minors
row_length pitch base i [] = refl
row_length pitch base i (n ∷ minors) =
    let s : sum (n ∷ minors) ≡ n + sum minors = sum_by-cons (λ x. x) n minors in
    length-append (count_from (base + i * pitch) n) (row_addresses pitch base (i + 1) minors)
    ∙ rw (length_count_from (base + i * pitch) n, row_length pitch base (i + 1) minors, s) refl

pub frames_cons : (widths : FieldWidths) (r : RowData) (rows : List RowData) → length (addresses widths (r ∷ rows)) ≡ sum r.minors + length (addresses widths rows)
unfolding addresses
frames_cons widths r rows = length-append (addresses_of widths r) (addresses widths rows) ∙ ap (λ n. n + length (addresses widths rows)) (row_length (2 ^ column_low widths) (row_address widths r) 0 r.minors)

pub frames_more : (widths : FieldWidths) (i : ℕ) (rows : List RowData) (d : RowData) → i < length rows →
    length (addresses widths (drop i rows)) ≡ sum (get_or rows i d).minors + length (addresses widths (drop (i + 1) rows))
frames_more widths i rows d h = rw (drop_more rows i d h) (frames_cons widths (get_or rows i d) (drop (i + 1) rows))

table_cons : (widths : FieldWidths) (rank slot n : ℕ) (r : RowData) (rows : List RowData) → n ≡ sum r.minors →
    table_of widths rank slot (r ∷ rows) ≡ row_columns (2 ^ column_low widths) (row_address widths r) 0 rank slot r.minors ++ table_of widths (rank + n) (slot + (n + pads_after_row)) rows
table_cons widths rank slot n r rows e =
    let s : slot + length (addresses_of widths r) + pads_after_row ≡ slot + (n + pads_after_row) = let l = row_length (2 ^ column_low widths) (row_address widths r) 0 r.minors in omega arith in
    let k : rank + length (addresses_of widths r) ≡ rank + n = let l = row_length (2 ^ column_low widths) (row_address widths r) 0 r.minors in omega arith in
    rw (s, k) refl

-- the table of rows of which some are done, once one row more is done
pub table_more : (widths : FieldWidths) (done new all : List Column) (rank slot i n m pitch base : ℕ) (minors : List ℕ) (rows : List RowData) (r : RowData) → i < length rows →
    r ≡ get_or rows i r → pitch ≡ 2 ^ column_low widths → base ≡ row_address widths r → minors ≡ r.minors → n ≡ sum r.minors → m ≡ n →
    new ≡ done ++ row_columns pitch base 0 rank slot minors → done ++ table_of widths rank slot (drop i rows) ≡ all →
    new ++ table_of widths (rank + n) (slot + (m + pads_after_row)) (drop (i + 1) rows) ≡ all
table_more widths done new all rank slot i n m pitch base minors rows r h same wide at items e f is before =
    let more : drop i rows ≡ r ∷ drop (i + 1) rows = drop_more rows i r h ∙ rw (← same) refl in
    let step : table_of widths rank slot (drop i rows) ≡ row_columns (2 ^ column_low widths) (row_address widths r) 0 rank slot r.minors ++ table_of widths (rank + n) (slot + (n + pads_after_row)) (drop (i + 1) rows) =
    ap (table_of widths rank slot) more ∙ table_cons widths rank slot n r (drop (i + 1) rows) e in
    rw (is, wide, at, items, f)
    (append_assoc done (row_columns (2 ^ column_low widths) (row_address widths r) 0 rank slot r.minors) (table_of widths (rank + n) (slot + (n + pads_after_row)) (drop (i + 1) rows))
    ∙ ap (λ l. done ++ l) (sym step) ∙ before)

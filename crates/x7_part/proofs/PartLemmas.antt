-- A part and the table of its columns.
use Rattle.std.proofs.Common.{◌≡◌, ℕ, ◌+◌, ◌*◌, ◌<◌, ◌≤◌, List, [], ◌∷◌, ◌++◌, length, map, refl, arith, length-append}
use Rattle.std.specs.Prelude.{sum, All}
use Rattle.std.proofs.lemmas.List.{length-map}
use Rattle.std.proofs.lemmas.List.Elements.{All-head}
use Rattle.std.proofs.lemmas.List.Sums.{sum_by-cons}
use Rattle.x7_part.specs.declared.column.Column.{Column}
use Rattle.x7_part.specs.declared.slot.Slot.TheVariants.{Frame, Pad}
use Rattle.x7_part.specs.Limits.{most_minors}
use Rattle.x7_part.specs.Part.{FieldWidths, RowData, PartData}
use Rattle.x7_part.specs.Ranges.{IsPart}
use Rattle.x7_part.specs.Address.{AreRows, no_row, row}
use Rattle.x7_part.specs.AddressOrder.{addresses_of, addresses, addresses_in}
use Rattle.x7_part.specs.Slot.{slots, slots_in, pads_after_row}
use Rattle.x7_part.specs.Column.{AreColumns, AreColumnsOf, column_addresses, column_slots, table_of}
use Rattle.x7_part.proofs.RowLemmas.{part_table, part_addresses, part_slots}
use Rattle.x7_part.proofs.TableLemmas.{frames_cons}

pub slots_count : (widths : FieldWidths) (rows : List RowData) → length (slots widths rows) ≡ length (addresses widths rows) + pads_after_row * length rows
unfolding slots addresses
slots_count widths [] = refl
slots_count widths (r ∷ rows) =
    let a = length-append (map Frame (addresses_of widths r) ++ Pad ∷ Pad ∷ []) (slots widths rows) in
    let b = length-append (map Frame (addresses_of widths r)) (Pad ∷ Pad ∷ []) in
    let m = length-map (addresses_of widths r) Frame in
    let l = length-append (addresses_of widths r) (addresses widths rows) in
    let ih = slots_count widths rows in
    omega arith

pub first_minors : (minors : List ℕ) → 1 ≤ length minors → All (λ n. (1 ≤ n) × (n ≤ most_minors)) minors → 0 < sum minors
first_minors [] h all = absurd (omega arith)
first_minors (n ∷ minors) h all =
    let s : sum (n ∷ minors) ≡ n + sum minors = sum_by-cons (λ x. x) n minors in
    let low = (All-head (λ n. (1 ≤ n) × (n ≤ most_minors)) n minors all).0 in omega arith

pub some_address : (widths : FieldWidths) (least : ℕ) (rows : List RowData) → AreRows widths least rows → 1 ≤ length rows → 0 < length (addresses widths rows)
some_address widths _ _ (no_row f least) h = absurd (omega arith)
some_address widths _ _ (row f least r rows le is rest) h =
    let f = frames_cons widths r rows in let s = first_minors r.minors is.some is.minors in omega arith

-- the columns that are made of a part's rows are the part's
pub columns_are : (cs : List Column) (seen part : PartData) → cs ≡ table_of seen.field_widths 0 0 seen.rows → IsPart seen → seen ≡ part → AreColumnsOf part cs
columns_are cs seen part e is same =
    let a : column_addresses cs ≡ addresses_in seen = part_addresses seen.field_widths cs seen.rows e in
    let s : column_slots cs ≡ slots_in seen = part_slots seen.field_widths cs seen.rows e is.rows in
    let n = slots_count seen.field_widths seen.rows in
    let few = is.frames in let rows = is.few in
    let columns : AreColumns cs = record { table = part_table seen.field_widths cs seen.rows e is.field_widths is.rows; addresses = rw a (omega arith); slots = rw s (omega arith) } in
    rw (← same) (record { is_part = is; are_columns = columns; addresses = a; slots = s })

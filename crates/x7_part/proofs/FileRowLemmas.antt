-- The rows of a part are those of its file, in rising order.
use Rattle.std.proofs.Common.{◌≡◌, ℕ, ◌+◌, ◌^◌, ◌≤◌, List, [], ◌∷◌, ◌++◌, Bool, true, false, Option, Some, None, refl, sym, ap, subst, ◌∙◌, arith}
use Rattle.std.specs.Prelude.{if◌then◌else◌, Result, Ok, Err, IsPermutation}
use Rattle.std.specs.Str.{is_utf8}
use Rattle.std.specs.List.{AllByRecursion}
use Rattle.std.proofs.lemmas.Option.{same_Some}
use Rattle.toml.specs.Data.{Members}
use Rattle.toml.specs.Parse.{parse_document}
use Rattle.x7_part.specs.declared.fault.PartFault.{PartFault}
use Rattle.x7_part.specs.declared.fault.PartFault.TheVariants.{Toml}
use Rattle.x7_part.specs.Address.{AreRows, AreWidths, IsRow, row, row_address, row_low}
use Rattle.x7_part.specs.Part.{FieldWidths, PartData, RowData}
use Rattle.x7_part.specs.PartFile.{first_fault, part_from, part_in, part_of_table, part_unless}
use Rattle.x7_part.specs.Ranges.{IsPart}
use Rattle.x7_part.specs.Row.{IsBefore, RowsRise}
use Rattle.x7_part.specs.Values.{settings_in, rows_in_file}
use Rattle.x7_part.proofs.PassLemmas.{made_is}
use Rattle.x7_part.proofs.SortLemmas.{from_least, ordered_same}
use Rattle.x7_part.proofs.WidthLemmas.{before_of, some_weight}

-- ---- rows of a part rise

all_at : (P : RowData → Type 0) (before after : List RowData) (s : RowData) → AllByRecursion P (before ++ s ∷ after) → P s
all_at P [] after s h = h.0
all_at P (r ∷ before) after s h = all_at P before after s h.1

in_range : (widths : FieldWidths) (least : ℕ) (rows : List RowData) → AreRows widths least rows → AllByRecursion IsRow rows
in_range widths least [] h = tt
in_range widths least (r ∷ rows) (row f l s more k is rest) = (is, in_range widths (row_address widths r + 2 ^ row_low widths) rows rest)

rise_at : (widths : FieldWidths) (least : ℕ) (before between after : List RowData) (r s : RowData) → AreWidths widths → AreRows widths least (before ++ r ∷ (between ++ s ∷ after)) → IsBefore r s
rise_at widths least [] between after r s w (row f l t more k is rest) =
    let higher = all_at (λ t. row_address widths r + 2 ^ row_low widths ≤ row_address widths t) between after s (from_least widths (row_address widths r + 2 ^ row_low widths) (between ++ s ∷ after) rest) in
    before_of widths r s w (all_at IsRow between after s (in_range widths (row_address widths r + 2 ^ row_low widths) (between ++ s ∷ after) rest)) (omega (arith, higher, some_weight widths))
rise_at widths least (b ∷ before) between after r s w (row f l t more k is rest) = rise_at widths (row_address widths b + 2 ^ row_low widths) before between after r s w rest

pub part_rises : (part : PartData) → IsPart part → RowsRise part.rows
part_rises part is before between after r s e = rise_at part.field_widths 0 before between after r s is.field_widths (rw (← e) is.rows)

-- ---- the part of a text

ok_not_err : (part : PartData) (fault : PartFault) → Ok part ≡ Err fault → ⊥
ok_not_err part fault e = absurd cc

same_part : (part other : PartData) (r : Result PartData PartFault) → r ≡ Ok part → r ≡ Ok other → part ≡ other
same_part part other r e f = cc

-- a text that gives a part has a table in which no check finds a fault
GivesPart : List ℕ → PartData → Type 0
GivesPart text part = (table : Members) × (parse_document text ≡ Some table) × (first_fault table ≡ None) × (part_from table ≡ part)

by_fault : (text : List ℕ) (part : PartData) (table : Members) (o : Option PartFault) → parse_document text ≡ Some table → first_fault table ≡ o → part_unless table o ≡ Ok part → GivesPart text part
unfolding GivesPart
by_fault text part table None p f e = (table, p, f, same_part (part_from table) part (Ok (part_from table)) refl e)
by_fault text part table (Some fault) p f e = absurd (ok_not_err part fault (sym e))

by_table : (text : List ℕ) (part : PartData) (o : Option Members) → parse_document text ≡ o → part_of_table o ≡ Ok part → GivesPart text part
by_table text part None p e = absurd (ok_not_err part Toml (sym e))
by_table text part (Some table) p e = by_fault text part table (first_fault table) p refl e

by_utf8 : (text : List ℕ) (part : PartData) (b : Bool) → (if b then part_of_table (parse_document text) else Err Toml) ≡ Ok part → GivesPart text part
by_utf8 text part true e = by_table text part (parse_document text) refl e
by_utf8 text part false e = absurd (ok_not_err part Toml (sym e))

gives : (text : List ℕ) (part : PartData) → part_in text ≡ Ok part → GivesPart text part
unfolding part_in
gives text part e = by_utf8 text part (is_utf8 text) e

pub text_is : (text : List ℕ) (part : PartData) → part_in text ≡ Ok part → IsPart part
unfolding GivesPart
text_is text part e = let (table, p, f, same) = gives text part e in subst IsPart same (made_is table f)

pub text_rows : (text : List ℕ) (table : Members) (part : PartData) → parse_document text ≡ Some table → part_in text ≡ Ok part → IsPermutation (rows_in_file table) part.rows
unfolding GivesPart part_from
text_rows text table part p e =
    let (other, q, f, same) = gives text part e in
    let one : other ≡ table = same_Some other table (sym q ∙ p) in
    subst (λ x. IsPermutation (rows_in_file x) part.rows) one (subst (λ x. IsPermutation (rows_in_file other) x) (ap (λ x. x.rows) same) (ordered_same (settings_in other).field_widths (rows_in_file other)))

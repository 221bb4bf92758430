-- Addresses by their fields.
use Rattle.std.proofs.Common.{◌≡◌, ℕ, zero, suc, ◌+◌, ◌-◌, ◌*◌, ◌^◌, ◌<◌, List, [], ◌∷◌, length, get_or, refl, sym, ◌∙◌, arith, inl, inr, ◌↔◌, Bool, true, Option, Some, None, is_some}
use Rattle.std.specs.Prelude.{slice_index, Contains, IfSome, IfNone}
use Rattle.std.proofs.lemmas.Bool.{false≢true}
use Rattle.std.proofs.lemmas.List.Elements.{Contains-append_left, Contains-append_right, Contains-append_cases}
use Rattle.x7_part.specs.Part.{FieldWidths, RowData, PartData}
use Rattle.x7_part.specs.Address.{row_address, frame_address, column_low, IsAddressOf}
use Rattle.x7_part.specs.AddressOrder.{count_from, row_addresses, addresses_of, addresses, addresses_in}
use Rattle.x7_part.proofs.ColumnLemmas.{length_count_from, get_or_count_from, count_from_bounds}

counted : (a n i : ℕ) → i < n → Contains (count_from a n) (a + i)
counted a n i h = (i, let e : length (count_from a n) ≡ n = length_count_from a n in omega arith, get_or_count_from a n i (a + i) h)

-- an address of a row is of one of its columns
row_fields : (pitch base i far : ℕ) (minors : List ℕ) → Contains (row_addresses pitch base i minors) far →
    (column : ℕ) × (minor : ℕ) × (column < length minors) × (minor < get_or minors column 0) × (far ≡ base + (i + column) * pitch + minor)
row_fields pitch base i far [] (k, low, e) = absurd (omega arith)
row_fields pitch base i far (n ∷ minors) in' =
    elim (Contains-append_cases (count_from (base + i * pitch) n) (row_addresses pitch base (i + 1) minors) far in') [
      | inl here ↦ let b = count_from_bounds (base + i * pitch) n far here in
          (0, far - (base + i * pitch), omega arith, omega arith, omega arith)
      | inr later ↦ let (column, minor, within, below, is) = row_fields pitch base (i + 1) far minors later in
          (suc column, minor, omega arith, below, omega arith)
    ]

row_has : (pitch base i column minor : ℕ) (minors : List ℕ) → column < length minors → minor < get_or minors column 0 →
    Contains (row_addresses pitch base i minors) (base + (i + column) * pitch + minor)
row_has pitch base i column minor [] h k = absurd (omega arith)
row_has pitch base i zero minor (n ∷ minors) h k =
    Contains-append_left (count_from (base + i * pitch) n) (row_addresses pitch base (i + 1) minors) _
    (let e : base + (i + 0) * pitch + minor ≡ base + i * pitch + minor = omega arith in
    rw e (counted (base + i * pitch) n minor k))
row_has pitch base i (suc column) minor (n ∷ minors) h k =
    Contains-append_right (count_from (base + i * pitch) n) (row_addresses pitch base (i + 1) minors) _
    (let e : base + (i + suc column) * pitch + minor ≡ base + (i + 1 + column) * pitch + minor = omega arith in
    rw e (row_has pitch base (i + 1) column minor minors (omega arith) k))

-- an address is that of a column and a minor of one of these rows
pub IsListed : FieldWidths → List RowData → ℕ → Type 0
IsListed widths rows address =
    (r : RowData) × (column : ℕ) × (minor : ℕ) × Contains rows r × (column < length r.minors)
    × (minor < slice_index r.minors column) × (address ≡ frame_address widths r column minor)

more_rows : (widths : FieldWidths) (r : RowData) (rows : List RowData) (address : ℕ) → IsListed widths rows address → IsListed widths (r ∷ rows) address
unfolding IsListed
more_rows widths r rows address (x, column, minor, (k, low, same), within, below, is) = (x, column, minor, (suc k, omega arith, same), within, below, is)

pub has_fields : (widths : FieldWidths) (rows : List RowData) (address : ℕ) → Contains (addresses widths rows) address → IsListed widths rows address
unfolding addresses IsListed
has_fields widths [] address (k, low, e) = absurd (omega arith)
has_fields widths (r ∷ rows) address in' =
    elim (Contains-append_cases (addresses_of widths r) (addresses widths rows) address in') [
      | inl here ↦ let (column, minor, within, below, is) = row_fields (2 ^ column_low widths) (row_address widths r) 0 address r.minors here in
          (r, column, minor, (0, omega arith, refl), within, below, omega arith)
      | inr later ↦ more_rows widths r rows address (has_fields widths rows address later)
    ]

pub row_in : (widths : FieldWidths) (rows : List RowData) (r : RowData) (k x : ℕ) → k < length rows → get_or rows k r ≡ r → Contains (addresses_of widths r) x → Contains (addresses widths rows) x
unfolding addresses
row_in widths [] r k x h e in' = absurd (omega arith)
row_in widths (s ∷ rows) r zero x h e in' = Contains-append_left (addresses_of widths s) (addresses widths rows) x (rw e in')
row_in widths (s ∷ rows) r (suc k) x h e in' = Contains-append_right (addresses_of widths s) (addresses widths rows) x (row_in widths rows r k x (omega arith) e in')

pub has_address : (widths : FieldWidths) (rows : List RowData) (address : ℕ) → IsListed widths rows address → Contains (addresses widths rows) address
unfolding IsListed
has_address widths rows address (r, column, minor, (k, low, same), within, below, is) =
    let e : address ≡ row_address widths r + (0 + column) * 2 ^ column_low widths + minor = omega arith in
    row_in widths rows r k address low same (rw e (row_has (2 ^ column_low widths) (row_address widths r) 0 column minor r.minors within below))

pub fields_of_part : (part : PartData) (address : ℕ) → Contains (addresses_in part) address → IsAddressOf part address
unfolding IsListed
fields_of_part part address in' = has_fields part.field_widths part.rows address in'

pub address_of_part : (part : PartData) (address : ℕ) → IsAddressOf part address → Contains (addresses_in part) address
unfolding IsListed
address_of_part part address is = has_address part.field_widths part.rows address is

-- a search answers whether P holds, where finding something proves P, and finding nothing refutes it
pub found_says : (o : Option ℕ) (b : Bool) (P : Type 0) → IfSome o (λ i. P) → IfNone o (¬ P) → b ≡ is_some o → (b ≡ true) ↔ P
found_says None b P found none e = (λ t. absurd (false≢true (sym e ∙ t)), λ p. absurd (none p))
found_says (Some i) b P found none e = (λ t. found, λ p. e)

-- Values that passed the checks of their ranges.
use Rattle.std.proofs.Common.{◌≡◌, ℕ, ◌+◌, ◌≤◌, ◌%◌, ◌==◌, ◌||◌, ℤ, pos, negsuc, List, [], ◌∷◌, length, map, Bool, Option, None, Some, true, false, inl, inr, ◌&&◌, nat_le, leb-true, refl, sym, ◌∙◌, arith}
use Rattle.std.specs.Prelude.{All, int_le, unwrap_or, option_and_then, not, is_some, ◌⊎◌}
use Rattle.std.specs.List.{AllByRecursion}
use Rattle.std.proofs.lemmas.Bool.{and_parts, false≢true}
use Rattle.std.proofs.lemmas.Bool.Decides.{eqb_tells}
use Rattle.std.proofs.lemmas.List.{length-map}
use Rattle.std.proofs.lemmas.List.Elements.{All-cons, All-nil}
use Rattle.x7_part.specs.declared.fault.PartFault.{PartFault}
use Rattle.x7_part.specs.declared.fault.PartFault.TheVariants.{Range}
use Rattle.x7_part.specs.declared.fault.PartKey.TheVariants as key
use Rattle.x7_part.specs.Keys.{in_row, top}
use Rattle.x7_part.specs.Limits.{first_printed, greatest_block, greatest_bus_width, greatest_half, greatest_idcode, greatest_mode, greatest_row, large_start_unit, half_width, last_printed, least_block_width, least_column_width, least_frame_words, least_minor_width, least_row_width, most_address_width, most_block_width, most_column_width, most_columns, most_frame_words, most_minor_width, most_minors, most_name_size, most_row_width, most_rows, most_wait_ticks, usual_frame_words, usual_start_unit, IsStartUnit}
use Rattle.x7_part.specs.Address.{IsRow, AreWidths}
use Rattle.x7_part.specs.Values.{under, items_under, number_or, row_tables, text, wholes, natural, row_of, widths_of}
use Rattle.x7_part.specs.Part.{usual_widths}
use Rattle.toml.specs.Data.{Data, Members, no_items, as_array}
use Rattle.x7_part.specs.PartChecks.{unless, first_of, rows_fault, next_row_number, is_in, is_length_in, are_printed, is_name, is_idcode, is_start_unit, are_in, are_minors, are_widths, are_widths_in_range, is_up_to, ranges_fault, row_range_fault, top_range_fault}
use Rattle.x7_part.proofs.OrderLemmas.{unless_none, first_none}

-- where checks have no first fault, none of them finds one
pub nones : (checks : List (Option PartFault)) → first_of checks ≡ None → AllByRecursion (λ o. o ≡ None) checks
nones [] e = tt
nones (o ∷ checks) e = let p = first_none o checks e in (p.0, nones checks p.1)

pub in_range : (low high : ℕ) (z : ℤ) → is_in low high z ≡ true → (low ≤ natural z) × (natural z ≤ high)
unfolding is_in
in_range low high (pos n) h =
    let p = and_parts (int_le (pos low) (pos n)) (int_le (pos n) (pos high)) h in
    (leb-true low n p.0, leb-true n high p.1)
in_range low high (negsuc n) h =
    let p = and_parts (int_le (pos low) (negsuc n)) (int_le (negsuc n) (pos high)) h in
    absurd (false≢true p.0)

pub name_in : (bs : List ℕ) → is_name bs ≡ true → (is_length_in 1 most_name_size (length bs) ≡ true) × (are_printed bs ≡ true)
unfolding is_name
name_in bs h = and_parts (is_length_in 1 most_name_size (length bs)) (are_printed bs) h

pub long_in : (low high n : ℕ) → is_length_in low high n ≡ true → (low ≤ n) × (n ≤ high)
long_in low high n h = let p = and_parts (nat_le low n) (nat_le n high) h in (leb-true low n p.0, leb-true n high p.1)

pub printed : (bs : List ℕ) → are_printed bs ≡ true → All (λ b. (first_printed ≤ b) × (b ≤ last_printed)) bs
printed [] e = All-nil (λ b. (first_printed ≤ b) × (b ≤ last_printed))
printed (b ∷ bs) e =
    let p = and_parts (nat_le first_printed b && nat_le b last_printed) (are_printed bs) e in
    let q = and_parts (nat_le first_printed b) (nat_le b last_printed) p.0 in
    All-cons (λ b. (first_printed ≤ b) × (b ≤ last_printed)) b bs (leb-true first_printed b q.0, leb-true b last_printed q.1) (printed bs p.1)

is_one : (n : ℕ) → (n == 1) ≡ true → n ≡ 1
is_one n e = elim (eqb_tells n 1) [ inl y ↦ y.1 | inr n' ↦ absurd (false≢true (sym n'.0 ∙ e)) ]

odd_in : (z : ℤ) → is_idcode z ≡ true → (natural z ≤ greatest_idcode) × (natural z % 2 ≡ 1)
unfolding is_idcode
odd_in z h =
    let p = and_parts (is_in 1 greatest_idcode z) (natural z % 2 == 1) h in ((in_range 1 greatest_idcode z p.0).1, is_one (natural z % 2) p.1)

or_cases : (a b : Bool) → (a || b) ≡ true → (a ≡ true) ⊎ (b ≡ true)
or_cases true b h = inl refl
or_cases false b h = inr h

one_number : (n : ℕ) (z : ℤ) → is_in n n z ≡ true → natural z ≡ n
one_number n z h = let r = in_range n n z h in let low = r.0 in let high = r.1 in omega arith

unit_in : (z : ℤ) → is_start_unit z ≡ true → IsStartUnit (natural z)
unfolding is_start_unit
unit_in z h = elim (or_cases (is_in 1 1 z) (is_in 256 256 z) h) [ inl first ↦ inl (one_number 1 z first) | inr second ↦ inr (one_number 256 z second) ]

widths_are : (zs : List ℤ) → are_widths zs ≡ true → AreWidths (widths_of zs)
widths_are [] h = absurd (false≢true h)
widths_are (a ∷ []) h = absurd (false≢true h)
widths_are (a ∷ b ∷ []) h = absurd (false≢true h)
widths_are (a ∷ b ∷ c ∷ []) h = absurd (false≢true h)
widths_are (a ∷ b ∷ c ∷ d ∷ []) h = absurd (false≢true h)
widths_are (a ∷ b ∷ c ∷ d ∷ e ∷ f ∷ zs) h = absurd (false≢true h)
widths_are (a ∷ b ∷ c ∷ d ∷ e ∷ []) h =
    let p = and_parts ((is_in least_minor_width most_minor_width a && is_in least_column_width most_column_width b) && (is_in least_row_width most_row_width c && is_in half_width half_width d))
    (is_in least_block_width most_block_width e && nat_le (natural a + natural b + natural c + natural d + natural e) most_address_width) h in
    let q = and_parts (is_in least_minor_width most_minor_width a && is_in least_column_width most_column_width b) (is_in least_row_width most_row_width c && is_in half_width half_width d) p.0 in
    let r = and_parts (is_in least_minor_width most_minor_width a) (is_in least_column_width most_column_width b) q.0 in
    let s = and_parts (is_in least_row_width most_row_width c) (is_in half_width half_width d) q.1 in
    let t = and_parts (is_in least_block_width most_block_width e) (nat_le (natural a + natural b + natural c + natural d + natural e) most_address_width) p.1 in
    record {
      minor = in_range least_minor_width most_minor_width a r.0;
      column = in_range least_column_width most_column_width b r.1;
      row = in_range least_row_width most_row_width c s.0;
      half = one_number half_width d s.1;
      block = in_range least_block_width most_block_width e t.0;
      sum = leb-true (natural a + natural b + natural c + natural d + natural e) most_address_width t.1;
    }

usual_are : AreWidths usual_widths
usual_are = record { minor = (omega arith, omega arith); column = (omega arith, omega arith); row = (omega arith, omega arith); half = refl; block = (omega arith, omega arith); sum = omega arith }

far_by : (value : Option Data) → (not (is_some value) || are_widths (wholes (unwrap_or (option_and_then as_array value) no_items))) ≡ true →
    AreWidths (widths_of (wholes (unwrap_or (option_and_then as_array value) no_items)))
far_by None h = usual_are
far_by (Some d) h = widths_are (wholes (unwrap_or (as_array d) no_items)) h

-- widths in range, or the usual ones
pub far_is : (t : Members) → are_widths_in_range t ≡ true → AreWidths (widths_of (wholes (items_under key.Far t)))
unfolding are_widths_in_range
far_is t h = far_by (under key.Far t) h

minors_in : (zs : List ℤ) → are_in 1 most_minors zs ≡ true → All (λ n. (1 ≤ n) × (n ≤ most_minors)) (map natural zs)
minors_in [] h = All-nil (λ n. (1 ≤ n) × (n ≤ most_minors))
minors_in (z ∷ zs) h =
    let p = and_parts (is_in 1 most_minors z) (are_in 1 most_minors zs) h in
    All-cons (λ n. (1 ≤ n) × (n ≤ most_minors)) (natural z) (map natural zs) (in_range 1 most_minors z p.0) (minors_in zs p.1)

-- the numbers of minors of a row are in range
pub record Minors (minors : List ℕ) : Type 0 where
  pub some : 1 ≤ length minors
  pub columns : length minors ≤ most_columns
  pub each : All (λ n. (1 ≤ n) × (n ≤ most_minors)) minors

pub minors_are : (zs : List ℤ) (fault : PartFault) → unless (are_minors zs) fault ≡ None → Minors (map natural zs)
minors_are zs fault e =
    let m = and_parts (is_length_in 1 most_columns (length zs)) (are_in 1 most_minors zs) (unless_none (are_minors zs) fault e) in
    let many = long_in 1 most_columns (length zs) m.0 in
    let l = length-map zs natural in
    record {
      some = (let s = many.0 in omega arith);
      columns = (let s = many.1 in omega arith);
      each = minors_in zs m.1;
    }

pub row_is : (n : ℕ) (t : Members) → row_range_fault n t ≡ None → IsRow (row_of t)
row_is n t e =
    let none = nones (
    unless (is_up_to greatest_block key.Block t) (Range (in_row n key.Block))
    ∷ unless (is_up_to greatest_half key.Half t) (Range (in_row n key.Half))
    ∷ unless (is_up_to greatest_row key.Row t) (Range (in_row n key.Row))
    ∷ unless (are_minors (wholes (items_under key.Minors t))) (Range (in_row n key.Minors))
    ∷ []) e in
    let m = minors_are (wholes (items_under key.Minors t)) (Range (in_row n key.Minors)) none.1.1.1.0 in
    record {
      block = (in_range 0 greatest_block _ (unless_none (is_up_to greatest_block key.Block t) (Range (in_row n key.Block)) none.0)).1;
      half = (in_range 0 greatest_half _ (unless_none (is_up_to greatest_half key.Half t) (Range (in_row n key.Half)) none.1.0)).1;
      row = (in_range 0 greatest_row _ (unless_none (is_up_to greatest_row key.Row t) (Range (in_row n key.Row)) none.1.1.0)).1;
      some = m.some;
      columns = m.columns;
      minors = m.each;
    }

pub rows_are : (n : ℕ) (ts : List Members) → rows_fault row_range_fault n ts ≡ None → All IsRow (map row_of ts)
rows_are n [] e = All-nil IsRow
rows_are n (t ∷ ts) e =
    let p = nones (row_range_fault n t ∷ rows_fault row_range_fault (next_row_number n) ts ∷ []) e in
    All-cons IsRow (row_of t) (map row_of ts) (row_is n t p.0) (rows_are (next_row_number n) ts p.1.0)

-- ---- a row by its tests

pub row_tests : (n : ℕ) (t : Members) (block half row minors : Bool) → block ≡ is_up_to greatest_block key.Block t → half ≡ is_up_to greatest_half key.Half t → row ≡ is_up_to greatest_row key.Row t →
    minors ≡ are_minors (wholes (items_under key.Minors t)) →
    ranges_fault (Some n) (record { key = key.Block; passes = block } ∷ record { key = key.Half; passes = half } ∷ record { key = key.Row; passes = row } ∷ record { key = key.Minors; passes = minors } ∷ []) ≡ row_range_fault n t
row_tests n t block half row minors e f g h = rw (e, f, g, h) refl

-- ---- a top table by its tests

-- a top table whose values are in their ranges
pub record TopRanges (t : Members) : Type 0 where
  pub name : is_name (text key.Name t) ≡ true
  pub idcode : (natural (number_or 0 key.Idcode t) ≤ greatest_idcode) × (natural (number_or 0 key.Idcode t) % 2 ≡ 1)
  pub mode : natural (number_or 0 key.Mode t) ≤ greatest_mode
  pub bus_width : natural (number_or 0 key.BusWidth t) ≤ greatest_bus_width
  pub lock : natural (number_or 0 key.Lock t) ≤ most_wait_ticks
  pub matched : natural (number_or 0 key.Match t) ≤ most_wait_ticks
  pub words : (least_frame_words ≤ natural (number_or usual_frame_words key.FrameWords t)) × (natural (number_or usual_frame_words key.FrameWords t) ≤ most_frame_words)
  pub widths : are_widths_in_range t ≡ true
  pub start_unit : IsStartUnit (natural (number_or usual_start_unit key.StartUnit t))
  pub rows : (1 ≤ length (row_tables t)) × (length (row_tables t) ≤ most_rows)

pub top_ranges : (t : Members) → top_range_fault t ≡ None → TopRanges t
unfolding top_range_fault
top_ranges t e =
    let h = nones (
    unless (is_name (text key.Name t)) (Range (top key.Name))
    ∷ unless (is_idcode (number_or 0 key.Idcode t)) (Range (top key.Idcode))
    ∷ unless (is_up_to greatest_mode key.Mode t) (Range (top key.Mode))
    ∷ unless (is_up_to greatest_bus_width key.BusWidth t) (Range (top key.BusWidth))
    ∷ unless (is_up_to most_wait_ticks key.Lock t) (Range (top key.Lock))
    ∷ unless (is_up_to most_wait_ticks key.Match t) (Range (top key.Match))
    ∷ unless (is_in least_frame_words most_frame_words (number_or usual_frame_words key.FrameWords t)) (Range (top key.FrameWords))
    ∷ unless (are_widths_in_range t) (Range (top key.Far))
    ∷ unless (is_start_unit (number_or usual_start_unit key.StartUnit t)) (Range (top key.StartUnit))
    ∷ unless (is_length_in 1 most_rows (length (row_tables t))) (Range (top key.Row))
    ∷ []) e in
    record {
      name = unless_none (is_name (text key.Name t)) (Range (top key.Name)) h.0;
      idcode = odd_in (number_or 0 key.Idcode t) (unless_none (is_idcode (number_or 0 key.Idcode t)) (Range (top key.Idcode)) h.1.0);
      mode = (in_range 0 greatest_mode _ (unless_none (is_up_to greatest_mode key.Mode t) (Range (top key.Mode)) h.1.1.0)).1;
      bus_width = (in_range 0 greatest_bus_width _ (unless_none (is_up_to greatest_bus_width key.BusWidth t) (Range (top key.BusWidth)) h.1.1.1.0)).1;
      lock = (in_range 0 most_wait_ticks _ (unless_none (is_up_to most_wait_ticks key.Lock t) (Range (top key.Lock)) h.1.1.1.1.0)).1;
      matched = (in_range 0 most_wait_ticks _ (unless_none (is_up_to most_wait_ticks key.Match t) (Range (top key.Match)) h.1.1.1.1.1.0)).1;
      words = in_range least_frame_words most_frame_words _ (unless_none (is_in least_frame_words most_frame_words (number_or usual_frame_words key.FrameWords t)) (Range (top key.FrameWords)) h.1.1.1.1.1.1.0);
      widths = unless_none (are_widths_in_range t) (Range (top key.Far)) h.1.1.1.1.1.1.1.0;
      start_unit = unit_in _ (unless_none (is_start_unit (number_or usual_start_unit key.StartUnit t)) (Range (top key.StartUnit)) h.1.1.1.1.1.1.1.1.0);
      rows = long_in 1 most_rows (length (row_tables t)) (unless_none (is_length_in 1 most_rows (length (row_tables t))) (Range (top key.Row)) h.1.1.1.1.1.1.1.1.1.0);
    }

pub unit_most : (unit : ℕ) → IsStartUnit unit → unit ≤ large_start_unit
unit_most unit is = elim is [ inl e ↦ omega (arith, e) | inr e ↦ omega (arith, e) ]

-- what each test of a top table says
pub record AreTopTests (t : Members) (name idcode mode bus_width lock matched words widths start_unit rows : Bool) : Type 0 where
  pub name_is : name ≡ is_name (text key.Name t)
  pub idcode_is : idcode ≡ is_idcode (number_or 0 key.Idcode t)
  pub mode_is : mode ≡ is_up_to greatest_mode key.Mode t
  pub bus_width_is : bus_width ≡ is_up_to greatest_bus_width key.BusWidth t
  pub lock_is : lock ≡ is_up_to most_wait_ticks key.Lock t
  pub matched_is : matched ≡ is_up_to most_wait_ticks key.Match t
  pub words_is : words ≡ is_in least_frame_words most_frame_words (number_or usual_frame_words key.FrameWords t)
  pub widths_is : widths ≡ are_widths_in_range t
  pub start_unit_is : start_unit ≡ is_start_unit (number_or usual_start_unit key.StartUnit t)
  pub rows_is : rows ≡ is_length_in 1 most_rows (length (row_tables t))

pub top_tests : (t : Members) (name idcode mode bus_width lock matched words widths start_unit rows : Bool) → AreTopTests t name idcode mode bus_width lock matched words widths start_unit rows →
    ranges_fault None (record { key = key.Name; passes = name } ∷ record { key = key.Idcode; passes = idcode } ∷ record { key = key.Mode; passes = mode } ∷ record { key = key.BusWidth; passes = bus_width }
    ∷ record { key = key.Lock; passes = lock } ∷ record { key = key.Match; passes = matched } ∷ record { key = key.FrameWords; passes = words } ∷ record { key = key.Far; passes = widths }
    ∷ record { key = key.StartUnit; passes = start_unit } ∷ record { key = key.Row; passes = rows } ∷ []) ≡ top_range_fault t
unfolding top_range_fault
top_tests t name idcode mode bus_width lock matched words widths start_unit rows e =
    rw (e.name_is, e.idcode_is, e.mode_is, e.bus_width_is, e.lock_is, e.matched_is, e.words_is, e.widths_is, e.start_unit_is, e.rows_is) refl

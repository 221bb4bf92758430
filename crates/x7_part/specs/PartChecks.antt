-- The checks of a part file's keys and values, in their order (this project's choice).
use Rattle.std.specs.Prelude.{ℕ, ◌≡◌, ◌⊎◌, ◌+◌, ◌-◌, ◌^◌, ◌%◌, min, ℤ, pos, List, [], ◌∷◌, length, map, Bool, true, false, ◌&&◌, ◌||◌, not, ◌==◌, nat_le, if◌then◌else◌, Option, Some, None, is_some, int_le, Result, Ok, Err}
use Rattle.toml.specs.Data.{Data, Items, no_items, item, Members, as_str, as_integer, array, as_table}
use Rattle.x7_part.specs.declared.checks.Check.{Check}
use Rattle.x7_part.specs.declared.checks.Check.TheVariants.{Types, Names}
use Rattle.x7_part.specs.declared.fault.PartKey.{PartKey}
use Rattle.x7_part.specs.declared.fault.PartKey.TheVariants as key
use Rattle.x7_part.specs.declared.keys.KeyRule.{KeyRule}
use Rattle.x7_part.specs.declared.keys.Kind.{Kind}
use Rattle.x7_part.specs.declared.keys.Kind.TheVariants.{Text, Whole, Table}
use Rattle.x7_part.specs.declared.ranges.RangeTest.{RangeTest}
use Rattle.x7_part.specs.declared.fault.PartFault.{PartFault}
use Rattle.x7_part.specs.declared.fault.PartFault.TheVariants.{Key, Range, NoMemory}
use Rattle.x7_part.specs.Limits.{first_printed, greatest_block, greatest_bus_width, greatest_half, greatest_idcode, greatest_mode, greatest_row, half_width, large_start_unit, last_printed, least_block_width, least_column_width, least_frame_words, least_minor_width, least_row_width, most_address_width, most_block_width, most_column_width, most_columns, most_frame_words, most_minor_width, most_minors, most_name_size, most_row_width, most_rows, most_wait_ticks, usual_frame_words, usual_start_unit}
use Rattle.x7_part.specs.Keys.{top, in_row, top_keys, row_keys, has_only}
use Rattle.x7_part.specs.Address.{address_width}
use Rattle.x7_part.specs.Values.{under, text, number_or, items_under, wholes, row_tables, natural, widths_of}

-- ---- faults in order

-- the fault, unless the test holds
abbrev pub unless : Bool → PartFault → Option PartFault
unless true fault = None
unless false fault = Some fault

-- the first fault that the checks find
abbrev pub first_of : List (Option PartFault) → Option PartFault
first_of [] = None
first_of (Some fault ∷ checks) = Some fault
first_of (None ∷ checks) = first_of checks

-- a call that takes memory answers the fault that is due, or none where none is; want of memory has no cause
abbrev pub AnswersDue : {T : Type 0} → Option PartFault → Result T PartFault → Type 0
AnswersDue due (Ok done) = due ≡ None
AnswersDue due (Err fault) = (fault ≡ NoMemory) ⊎ (due ≡ Some fault)

-- the number of the row after row n; a number past 32 bits is given as the last of 32 bits
abbrev pub next_row_number : ℕ → ℕ
next_row_number n = min (n + 1) (2 ^ 32 - 1)

-- the first fault that a check finds in the rows, which count from n
abbrev pub rows_fault : {R : Type 0} → (ℕ → R → Option PartFault) → ℕ → List R → Option PartFault
rows_fault check n [] = None
rows_fault check n (row ∷ rows) = first_of (check n row ∷ rows_fault check (next_row_number n) rows ∷ [])

-- ---- types

-- a value is of a kind
abbrev pub is_kind : Kind → Data → Bool
is_kind Text d = is_some (as_str d)
is_kind Whole d = is_some (as_integer d)
is_kind Table d = is_some (as_table d)

-- each item is of a kind
abbrev pub are_kind : Kind → Items → Bool
are_kind kind no_items = true
are_kind kind (item d ds) = is_kind kind d && are_kind kind ds

-- a value is a list whose items are of a kind
abbrev pub is_list_of : Kind → Data → Bool
is_list_of kind (array ds) = are_kind kind ds
is_list_of _ _ = false

-- a key may have this value; no value stands for a key that is left out
abbrev pub allows : KeyRule → Option Data → Bool
allows rule None = rule.is_optional
allows rule (Some d) = if rule.is_list then is_list_of rule.holds d else is_kind rule.holds d

-- ---- the keys of all tables

-- the fault of a key of the top table, or of row n
abbrev pub key_fault : Option ℕ → PartKey → PartFault
key_fault row k = Key (record { row = row; key = k })

-- the first of `keys` that a table lacks, though it is required, or under which a value of another type stands
abbrev pub types_fault : Option ℕ → List KeyRule → Members → Option PartFault
types_fault row keys t = first_of (map (λ rule. unless (allows rule (under rule.key t)) (key_fault row rule.key)) keys)

-- a table, the top one or that of row n, has an unknown key
abbrev pub names_fault : Option ℕ → List KeyRule → Members → Option PartFault
names_fault row keys t = unless (has_only keys t) (key_fault row key.Other)

-- what a check finds in a table, the top one or that of row n, that may have these keys
abbrev pub check_fault : Check → Option ℕ → List KeyRule → Members → Option PartFault
check_fault Types = types_fault
check_fault Names = names_fault

-- the first fault that a check finds, at the top and then row by row
abbrev pub tables_fault : Check → Members → Option PartFault
tables_fault check t = first_of (check_fault check None top_keys t ∷ rows_fault (λ n. check_fault check (Some n) row_keys) 1 (row_tables t) ∷ [])

-- the first key of a part file that is required and missing, or has a value of another type
unfoldable pub type_fault : Members → Option PartFault
type_fault t = tables_fault Types t

-- the first table of a part file, at the top and then row by row, that has an unknown key
unfoldable pub other_fault : Members → Option PartFault
other_fault t = tables_fault Names t

-- ---- ranges

-- the first of the keys, in the top table or in row n, whose value isn't in its range
abbrev pub ranges_fault : Option ℕ → List RangeTest → Option PartFault
ranges_fault row tests = first_of (map (λ test. unless test.passes (Range (record { row = row; key = test.key }))) tests)

-- a number is at least `low` and at most `high`
unfoldable pub is_in : ℕ → ℕ → ℤ → Bool
is_in low high z = int_le (pos low) z && int_le z (pos high)

-- a length is at least `low` and at most `high`
abbrev pub is_length_in : ℕ → ℕ → ℕ → Bool
is_length_in low high n = nat_le low n && nat_le n high

-- the bytes are printed ones, none of them a blank
abbrev pub are_printed : List ℕ → Bool
are_printed [] = true
are_printed (b ∷ bs) = (nat_le first_printed b && nat_le b last_printed) && are_printed bs

-- a name: 1 to 64 printed bytes
unfoldable pub is_name : List ℕ → Bool
is_name bs = is_length_in 1 most_name_size (length bs) && are_printed bs

-- the number is odd, positive and below 2^32
unfoldable pub is_idcode : ℤ → Bool
is_idcode z = is_in 1 greatest_idcode z && (natural z % 2 == 1)

-- the number is 1 or 256: the bytes that one step of a start address may stand for
unfoldable pub is_start_unit : ℤ → Bool
is_start_unit z = is_in usual_start_unit usual_start_unit z || is_in large_start_unit large_start_unit z

-- the widths of the five fields of an address, each in range, of no more than 32 bits together
abbrev pub are_widths : List ℤ → Bool
are_widths (minor ∷ column ∷ row ∷ half ∷ block ∷ []) =
    ((is_in least_minor_width most_minor_width minor && is_in least_column_width most_column_width column)
    && (is_in least_row_width most_row_width row && is_in half_width half_width half))
    && (is_in least_block_width most_block_width block
    && nat_le (address_width (widths_of (minor ∷ column ∷ row ∷ half ∷ block ∷ []))) most_address_width)
are_widths _ = false

-- the widths of the five fields are in range, or left out
unfoldable pub are_widths_in_range : Members → Bool
are_widths_in_range t = not (is_some (under key.Far t)) || are_widths (wholes (items_under key.Far t))

-- each number is at least `low` and at most `high`
abbrev pub are_in : ℕ → ℕ → List ℤ → Bool
are_in low high [] = true
are_in low high (z ∷ zs) = is_in low high z && are_in low high zs

-- the numbers of minors of a row's columns: of 1 to 1,024 columns, each from 1 to 128
abbrev pub are_minors : List ℤ → Bool
are_minors zs = is_length_in 1 most_columns (length zs) && are_in 1 most_minors zs

-- the number under a key, 0 where there is none, is from 0 to `high`
abbrev pub is_up_to : ℕ → PartKey → Members → Bool
is_up_to high k t = is_in 0 high (number_or 0 k t)

-- the first value of row n that is out of range
abbrev pub row_range_fault : ℕ → Members → Option PartFault
row_range_fault n t = first_of (
    unless (is_up_to greatest_block key.Block t) (Range (in_row n key.Block))
    ∷ unless (is_up_to greatest_half key.Half t) (Range (in_row n key.Half))
    ∷ unless (is_up_to greatest_row key.Row t) (Range (in_row n key.Row))
    ∷ unless (are_minors (wholes (items_under key.Minors t))) (Range (in_row n key.Minors))
    ∷ [])

-- the first value of the top table that is out of range
unfoldable pub top_range_fault : Members → Option PartFault
top_range_fault t = first_of (
    unless (is_name (text key.Name t)) (Range (top key.Name))
    ∷ unless (is_idcode (number_or 0 key.Idcode t)) (Range (top key.Idcode))
    ∷ unless (is_up_to greatest_mode key.Mode t) (Range (top key.Mode))
    ∷ unless (is_up_to greatest_bus_width key.BusWidth t) (Range (top key.BusWidth))
    ∷ unless (is_up_to most_wait_ticks key.Lock t) (Range (top key.Lock))
    ∷ unless (is_up_to most_wait_ticks key.Match t) (Range (top key.Match))
    ∷ unless (is_in least_frame_words most_frame_words (number_or usual_frame_words key.FrameWords t)) (Range (top key.FrameWords))
    ∷ unless (are_widths_in_range t) (Range (top key.Far))
    ∷ unless (is_start_unit (number_or usual_start_unit key.StartUnit t)) (Range (top key.StartUnit))
    ∷ unless (is_length_in 1 most_rows (length (row_tables t))) (Range (top key.Row))
    ∷ [])

-- the first value of a part file that is out of range, at the top and then row by row
unfoldable pub range_fault : Members → Option PartFault
range_fault t = first_of (top_range_fault t ∷ rows_fault row_range_fault 1 (row_tables t) ∷ [])

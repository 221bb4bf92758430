-- The table of a part's rows.
use Rattle.std.proofs.Common.{◌≡◌, ℕ, zero, suc, ◌+◌, ◌-◌, ◌*◌, ◌^◌, ◌<◌, ◌≤◌, List, [], ◌∷◌, ◌++◌, length, map, refl, sym, ap, ◌∙◌, arith, length-append, append_assoc, All, get_or, drop, add-one, drop-cons, if◌then◌else◌, ◌==◌, true, false, eqb, eq-eqb, ne_eqb}
use Rattle.std.proofs.lemmas.Bool.{le-ltb, lt-ltb}
use Rattle.std.proofs.lemmas.List.Sums.{sum_by-cons}
use Rattle.std.specs.Prelude.{count_by, nat_lt, Contains}
use Rattle.std.proofs.lemmas.List.{length-drop, get_or_default}
use Rattle.std.proofs.lemmas.List.Concat.{flat_map-append}
use Rattle.std.proofs.lemmas.List.Elements.{All-head, All-tail}
use Rattle.x7_part.specs.declared.column.Column.{Column}
use Rattle.x7_part.specs.Limits.{most_minors}
use Rattle.x7_part.specs.Part.{FieldWidths, RowData}
use Rattle.x7_part.specs.declared.slot.Slot.{Slot}
use Rattle.x7_part.specs.declared.slot.Slot.TheVariants.{Frame, Pad}
use Rattle.x7_part.specs.Slot.{pads_after_row, slots}
use Rattle.x7_part.specs.AddressOrder.{count_from, row_addresses, addresses, Rises, risen, rise}
use Rattle.x7_part.specs.Address.{row_address, column_low, row_low, AreWidths, AreRows, no_row, row}
use Rattle.x7_part.specs.Column.{addresses_of_column, slots_of, column_addresses, column_slots, IsTable, no_column, column, row_columns, table_of}
use Rattle.x7_part.proofs.ColumnLemmas.{length_count_from}
use Rattle.x7_part.proofs.WidthLemmas.{column_end, columns_fit, pitch_least, row_top}

-- ---- lists

addresses_append : (xs ys : List Column) → column_addresses (xs ++ ys) ≡ column_addresses xs ++ column_addresses ys
unfolding column_addresses
addresses_append xs ys = flat_map-append addresses_of_column xs ys

slots_append : (xs ys : List Column) → column_slots (xs ++ ys) ≡ column_slots xs ++ column_slots ys
unfolding column_slots
slots_append xs ys = flat_map-append slots_of xs ys

map_append : (xs ys : List ℕ) → map Frame (xs ++ ys) ≡ map Frame xs ++ map Frame ys
map_append [] ys = refl
map_append (x ∷ xs) ys = ap (λ (l : List Slot). Frame x ∷ l) (map_append xs ys)

append_nil : (xs : List Slot) → xs ++ [] ≡ xs
append_nil [] = refl
append_nil (x ∷ xs) = ap (λ (l : List Slot). x ∷ l) (append_nil xs)

-- ---- one row

row_addresses_are : (pitch base i rank slot : ℕ) (minors : List ℕ) → column_addresses (row_columns pitch base i rank slot minors) ≡ row_addresses pitch base i minors
unfolding column_addresses
row_addresses_are pitch base i rank slot [] = refl
row_addresses_are pitch base i rank slot (n ∷ []) = refl
row_addresses_are pitch base i rank slot (n ∷ m ∷ minors) =
    ap (λ (l : List ℕ). count_from (base + i * pitch) n ++ l) (row_addresses_are pitch base (i + 1) (rank + n) (slot + n) (m ∷ minors))

row_slots_are : (pitch base i rank slot : ℕ) (minors : List ℕ) → 0 < length minors →
    column_slots (row_columns pitch base i rank slot minors) ≡ map Frame (row_addresses pitch base i minors) ++ Pad ∷ Pad ∷ []
unfolding column_slots
row_slots_are pitch base i rank slot [] h = absurd (omega arith)
row_slots_are pitch base i rank slot (n ∷ []) h =
    append_nil (map Frame (count_from (base + i * pitch) n) ++ Pad ∷ Pad ∷ [])
    ∙ ap (λ (l : List Slot). l ++ Pad ∷ Pad ∷ []) (sym (map_append (count_from (base + i * pitch) n) [] ∙ append_nil (map Frame (count_from (base + i * pitch) n))))
row_slots_are pitch base i rank slot (n ∷ m ∷ minors) h =
    let f = map Frame (count_from (base + i * pitch) n) in
    let tail = map Frame (row_addresses pitch base (i + 1) (m ∷ minors)) in
    ap (λ (l : List Slot). f ++ [] ++ l) (row_slots_are pitch base (i + 1) (rank + n) (slot + n) (m ∷ minors) (omega arith))
    ∙ ap (λ (l : List Slot). l ++ (tail ++ Pad ∷ Pad ∷ [])) (append_nil f)
    ∙ sym (append_assoc f tail (Pad ∷ Pad ∷ []))
    ∙ ap (λ (l : List Slot). l ++ Pad ∷ Pad ∷ []) (sym (map_append (count_from (base + i * pitch) n) (row_addresses pitch base (i + 1) (m ∷ minors))))

lower : (r s l l' : ℕ) (cs : List Column) → l' ≤ l → IsTable r s l cs → IsTable r s l' cs
lower _ _ _ l' _ h (no_column r s l) = no_column r s l'
lower _ _ _ l' _ h (column r s l c cs er es le pos top rest) = column r s l' c cs er es (omega arith) pos top rest

moved : (r s l r' s' l' : ℕ) (cs : List Column) → r ≡ r' → s ≡ s' → l' ≤ l → IsTable r s l cs → IsTable r' s' l' cs
moved r s l r' s' l' cs er es h t = rw (← er, ← es) (lower r s l l' cs h t)

-- a row's columns from its i-th on, from 0, with a table after them are a table, where the columns end at or before
-- `top`, from which the table after them begins
row_table : (pitch base i rank slot least top : ℕ) (minors : List ℕ) (rest : List Column) → 128 ≤ pitch → 0 < length minors →
    least ≤ base + i * pitch → base + (i + length minors) * pitch ≤ top → top ≤ 2 ^ 32 → All (λ n. (1 ≤ n) × (n ≤ most_minors)) minors →
    IsTable (rank + length (row_addresses pitch base i minors)) (slot + length (row_addresses pitch base i minors) + pads_after_row) top rest →
    IsTable rank slot least (row_columns pitch base i rank slot minors ++ rest)
row_table pitch base i rank slot least top [] rest p some le short high all t = absurd (omega arith)
row_table pitch base i rank slot least top (n ∷ []) rest p some le short high all t =
    let size = All-head (λ n. (1 ≤ n) × (n ≤ most_minors)) n [] all in
    let end = column_end i 1 pitch in
    let len : length (count_from (base + i * pitch) n ++ []) ≡ n + 0 = length-append (count_from (base + i * pitch) n) [] ∙ ap (λ x. x + 0) (length_count_from (base + i * pitch) n) in
    column rank slot least _ rest refl refl le size.0 (omega arith)
    (moved _ _ _ (rank + n) (slot + n + pads_after_row) (base + i * pitch + n) rest (omega arith) (omega arith) (omega arith) t)
row_table pitch base i rank slot least top (n ∷ m ∷ minors) rest p some le short high all t =
    let size = All-head (λ n. (1 ≤ n) × (n ≤ most_minors)) n (m ∷ minors) all in
    let more = row_addresses pitch base (i + 1) (m ∷ minors) in
    let next_end = column_end i 1 pitch in
    let end = column_end i (length (n ∷ m ∷ minors)) pitch in
    let same : i + 1 + length (m ∷ minors) ≡ i + length (n ∷ m ∷ minors) = omega arith in
    let len : length (count_from (base + i * pitch) n ++ more) ≡ n + length more =
    length-append (count_from (base + i * pitch) n) more ∙ ap (λ x. x + length more) (length_count_from (base + i * pitch) n) in
    let after : IsTable (rank + n + length more) (slot + n + length more + pads_after_row) top rest =
    moved _ _ _ (rank + n + length more) (slot + n + length more + pads_after_row) top rest (omega arith) (omega arith) (omega arith) t in
    let next : IsTable (rank + n) (slot + n) (base + i * pitch + n) (row_columns pitch base (i + 1) (rank + n) (slot + n) (m ∷ minors) ++ rest) =
    row_table pitch base (i + 1) (rank + n) (slot + n) (base + i * pitch + n) top (m ∷ minors) rest p (omega arith) (omega arith)
    (rw same short) high (All-tail (λ n. (1 ≤ n) × (n ≤ most_minors)) n (m ∷ minors) all) after in
    column rank slot least _ _ refl refl le size.0 (omega arith)
    (moved _ _ _ (rank + n) (slot + n + 0) (base + i * pitch + n) _ refl (omega arith) (omega arith) next)

-- ---- all rows

pub table_is : (widths : FieldWidths) (rank slot least : ℕ) (rows : List RowData) → AreWidths widths → AreRows widths least rows → IsTable rank slot least (table_of widths rank slot rows)
table_is widths rank slot _ _ w (no_row f least) = no_column rank slot least
table_is widths rank slot _ _ w (row f least r rows le is rest) =
    let pitch = 2 ^ column_low widths in
    let base = row_address widths r in
    let n = length (row_addresses pitch base 0 r.minors) in
    let narrow = columns_fit widths (length r.minors) w is.columns in
    row_table pitch base 0 rank slot least (base + 2 ^ row_low widths) r.minors (table_of widths (rank + n) (slot + n + pads_after_row) rows) (pitch_least widths w) is.some (omega arith)
    (omega arith) (row_top widths r w is) is.minors
    (table_is widths (rank + n) (slot + n + pads_after_row) (base + 2 ^ row_low widths) rows w rest)

pub table_addresses : (widths : FieldWidths) (rank slot : ℕ) (rows : List RowData) → column_addresses (table_of widths rank slot rows) ≡ addresses widths rows
unfolding addresses column_addresses
table_addresses widths rank slot [] = refl
table_addresses widths rank slot (r ∷ rows) =
    let pitch = 2 ^ column_low widths in
    let base = row_address widths r in
    let n = length (row_addresses pitch base 0 r.minors) in
    addresses_append (row_columns pitch base 0 rank slot r.minors) (table_of widths (rank + n) (slot + n + pads_after_row) rows)
    ∙ ap (λ (l : List ℕ). l ++ column_addresses (table_of widths (rank + n) (slot + n + pads_after_row) rows)) (row_addresses_are pitch base 0 rank slot r.minors)
    ∙ ap (λ (l : List ℕ). row_addresses pitch base 0 r.minors ++ l) (table_addresses widths (rank + n) (slot + n + pads_after_row) rows)

pub table_slots : (widths : FieldWidths) (rank slot least : ℕ) (rows : List RowData) → AreRows widths least rows → column_slots (table_of widths rank slot rows) ≡ slots widths rows
unfolding slots column_slots
table_slots widths rank slot _ _ (no_row f least) = refl
table_slots widths rank slot _ _ (row f least r rows le is rest) =
    let pitch = 2 ^ column_low widths in
    let base = row_address widths r in
    let n = length (row_addresses pitch base 0 r.minors) in
    slots_append (row_columns pitch base 0 rank slot r.minors) (table_of widths (rank + n) (slot + n + pads_after_row) rows)
    ∙ ap (λ (l : List Slot). l ++ column_slots (table_of widths (rank + n) (slot + n + pads_after_row) rows)) (row_slots_are pitch base 0 rank slot r.minors is.some)
    ∙ ap (λ (l : List Slot). map Frame (row_addresses pitch base 0 r.minors) ++ Pad ∷ Pad ∷ [] ++ l) (table_slots widths (rank + n) (slot + n + pads_after_row) (base + 2 ^ row_low widths) rows rest)

-- ---- number order

pub rises_lower : (a b : ℕ) (ys : List ℕ) → a ≤ b → Rises b ys → Rises a ys
rises_lower a _ _ h (risen b) = risen a
rises_lower a _ _ h (rise b y ys k rest) = rise a y ys (omega arith) rest

count_rises : (a n : ℕ) (ys : List ℕ) → Rises (a + n) ys → Rises a (count_from a n ++ ys)
count_rises a zero ys h = let e : a + 0 ≡ a = omega arith in rw e at h
count_rises a (suc n) ys h =
    let e : a + suc n ≡ a + 1 + n = omega arith in
    rise a a (count_from (a + 1) n ++ ys) (omega arith) (count_rises (a + 1) n ys (rw e at h))

-- the addresses rise
pub addresses_rise : (r s l : ℕ) (cs : List Column) → IsTable r s l cs → Rises l (column_addresses cs)
unfolding column_addresses
addresses_rise _ _ _ _ (no_column r s l) = risen l
addresses_rise _ _ _ _ (column r s l c cs er es le pos top rest) =
    rises_lower l c.first (column_addresses (c ∷ cs)) le
    (count_rises c.first c.count (column_addresses cs) (addresses_rise (r + c.count) (s + c.count + c.pad_count) (c.first + c.count) cs rest))

-- in a list that rises, as many elements are smaller than the one at a place as stand before it
count_cons : (x y : ℕ) (ys : List ℕ) →
    count_by (λ z. nat_lt z x) (y ∷ ys) ≡ (if nat_lt y x then 1 else 0) + count_by (λ z. nat_lt z x) ys
count_cons x y ys = sum_by-cons (λ z. if nat_lt z x then 1 else 0) y ys

none_smaller : (l x : ℕ) (xs : List ℕ) → Rises l xs → x ≤ l → count_by (λ y. nat_lt y x) xs ≡ 0
none_smaller _ x _ (risen l) h = refl
none_smaller _ x _ (rise l y ys k rest) h =
    let f : nat_lt y x ≡ false = le-ltb y x (omega arith) in
    let ih : count_by (λ z. nat_lt z x) ys ≡ 0 = none_smaller (y + 1) x ys rest (omega arith) in
    count_cons x y ys ∙ rw (f, ih) refl

pub later_larger : (l i : ℕ) (xs : List ℕ) → Rises l xs → i < length xs → l ≤ get_or xs i 0
later_larger _ i _ (risen l) h = absurd (omega arith)
later_larger _ zero _ (rise l y ys k rest) h = k
later_larger _ (suc i) _ (rise l y ys k rest) h = let m : y + 1 ≤ get_or ys i 0 = later_larger (y + 1) i ys rest (omega arith) in omega arith

pub smaller_before : (l x i : ℕ) (xs : List ℕ) → Rises l xs → i < length xs → get_or xs i 0 ≡ x → count_by (λ y. nat_lt y x) xs ≡ i
smaller_before _ x i _ (risen l) h e = absurd (omega arith)
smaller_before _ x zero _ (rise l y ys k rest) h e =
    let f : nat_lt y x ≡ false = le-ltb y x (omega arith) in
    let z : count_by (λ z. nat_lt z x) ys ≡ 0 = none_smaller (y + 1) x ys rest (omega arith) in
    count_cons x y ys ∙ rw (f, z) refl
smaller_before _ x (suc i) _ (rise l y ys k rest) h e =
    let m : y + 1 ≤ get_or ys i 0 = later_larger (y + 1) i ys rest (omega arith) in
    let f : nat_lt y x ≡ true = lt-ltb y x (omega arith) in
    let ih : count_by (λ z. nat_lt z x) ys ≡ i = smaller_before (y + 1) x i ys rest (omega arith) e in
    count_cons x y ys ∙ rw (f, ih) (omega arith)

-- ---- building a row's columns

drop_step : (i : ℕ) (xs : List ℕ) → i < length xs → drop i xs ≡ get_or xs i 0 ∷ drop (i + 1) xs
drop_step i xs h = rw (add-one, drop-cons xs i 0) refl

one_more : (pitch base i rank slot n : ℕ) (rest : List ℕ) (all : ℕ) → length rest ≡ all - (i + 1) → i < all →
    row_columns pitch base i rank slot (n ∷ rest)
    ≡ record { first = base + i * pitch; count = n; pad_count = (if i + 1 == all then pads_after_row else 0); rank = rank; place = slot }
    ∷ row_columns pitch base (i + 1) (rank + n) (slot + n) rest
one_more pitch base i rank slot n [] all e h = let f : eqb (i + 1) all ≡ true = eq-eqb (i + 1) all (omega arith) in rw f refl
one_more pitch base i rank slot n (m ∷ rest) all e h = let f : eqb (i + 1) all ≡ false = ne_eqb (i + 1) all (λ x. omega arith) in rw f refl

pub row_more : (pitch base i rank slot : ℕ) (minors : List ℕ) → i < length minors →
    row_columns pitch base i rank slot (drop i minors)
    ≡ record { first = base + i * pitch; count = get_or minors i 0; pad_count = (if i + 1 == length minors then pads_after_row else 0); rank = rank; place = slot }
    ∷ row_columns pitch base (i + 1) (rank + get_or minors i 0) (slot + get_or minors i 0) (drop (i + 1) minors)
row_more pitch base i rank slot minors h =
    rw (drop_step i minors h) (one_more pitch base i rank slot (get_or minors i 0) (drop (i + 1) minors) (length minors) (length-drop (i + 1) minors) h)

-- ---- a part

pub part_table : (widths : FieldWidths) (cs : List Column) (rows : List RowData) → cs ≡ table_of widths 0 0 rows → AreWidths widths → AreRows widths 0 rows → IsTable 0 0 0 cs
part_table widths cs rows e w a = rw e (table_is widths 0 0 0 rows w a)

pub part_addresses : (widths : FieldWidths) (cs : List Column) (rows : List RowData) → cs ≡ table_of widths 0 0 rows → column_addresses cs ≡ addresses widths rows
part_addresses widths cs rows e = rw e (table_addresses widths 0 0 rows)

pub part_slots : (widths : FieldWidths) (cs : List Column) (rows : List RowData) → cs ≡ table_of widths 0 0 rows → AreRows widths 0 rows → column_slots cs ≡ slots widths rows
part_slots widths cs rows e a = rw e (table_slots widths 0 0 0 rows a)

pub part_rises : (widths : FieldWidths) (rows : List RowData) → AreWidths widths → AreRows widths 0 rows → Rises 0 (addresses widths rows)
part_rises widths rows w a = let r = addresses_rise 0 0 0 (table_of widths 0 0 rows) (table_is widths 0 0 0 rows w a) in rw (table_addresses widths 0 0 rows) at r

pub rank_counts : (widths : FieldWidths) (rows : List RowData) (r x : ℕ) → AreWidths widths → AreRows widths 0 rows → r < length (addresses widths rows) → get_or (addresses widths rows) r 0 ≡ x →
    Contains (addresses widths rows) x × (r ≡ count_by (λ y. nat_lt y x) (addresses widths rows))
rank_counts widths rows r x w a h e =
    ((r, h, get_or_default (addresses widths rows) r x 0 h ∙ e), sym (smaller_before 0 x r (addresses widths rows) (part_rises widths rows w a) h e))

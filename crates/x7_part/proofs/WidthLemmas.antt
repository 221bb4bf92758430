-- Fields of an address: their weights, and that no row reaches into the next.
use Rattle.std.proofs.Common.{◌≡◌, ℕ, ◌+◌, ◌*◌, ◌^◌, ◌<◌, ◌≤◌, sym, ap, ◌∙◌, arith, List, length, inl, inr, ◌⊎◌}
use Rattle.std.proofs.lemmas.Nat.{pow-add, pow_pos}
use Rattle.std.proofs.lemmas.Bool.{cases_order}
use Rattle.std.proofs.Math.Nat.{pow-le-pow_right, add-mul, mul-le-mul_right, mul-le-mul_left}
use Rattle.x7_part.specs.Limits.{most_columns}
use Rattle.x7_part.specs.Part.{FieldWidths, RowData}
use Rattle.x7_part.specs.Row.{IsBefore}
use Rattle.x7_part.specs.Address.{row_address, column_low, row_low, half_low, block_low, address_width, AreWidths, IsRow}

two_to : (i j : ℕ) → i ≤ j → 2 ^ i ≤ 2 ^ j
two_to i j h = pow-le-pow_right (omega arith) h

pub column_end : (i n pitch : ℕ) → (i + n) * pitch ≡ i * pitch + n * pitch
column_end i n pitch = add-mul i n pitch

pub pitch_least : (widths : FieldWidths) → AreWidths widths → 128 ≤ 2 ^ column_low widths
pitch_least widths w = two_to 7 widths.minor w.minor.0

-- the columns of a row stay below the next row
pub columns_fit : (widths : FieldWidths) (n : ℕ) → AreWidths widths → n ≤ most_columns → (0 + n) * 2 ^ column_low widths ≤ 2 ^ row_low widths
columns_fit widths n w h =
    let most : n ≤ 2 ^ widths.column = (let c = two_to 10 widths.column w.column.0 in omega arith) in
    let times : n * 2 ^ widths.minor ≤ 2 ^ widths.column * 2 ^ widths.minor = mul-le-mul_right (2 ^ widths.minor) most in
    let split : 2 ^ (widths.minor + widths.column) ≡ 2 ^ widths.minor * 2 ^ widths.column = pow-add 2 widths.minor widths.column in
    omega arith

-- ---- the weights of the fields

-- row n, from 0 to 31, ends no higher than the weight of the half
row_end : (widths : FieldWidths) (n : ℕ) → AreWidths widths → n ≤ 31 → n * 2 ^ row_low widths + 2 ^ row_low widths ≤ 2 ^ half_low widths
row_end widths n w h =
    let most : n + 1 ≤ 2 ^ widths.row = (let c = two_to 5 widths.row w.row.0 in omega arith) in
    let times : (n + 1) * 2 ^ row_low widths ≤ 2 ^ widths.row * 2 ^ row_low widths = mul-le-mul_right (2 ^ row_low widths) most in
    let split : 2 ^ half_low widths ≡ 2 ^ row_low widths * 2 ^ widths.row = pow-add 2 (row_low widths) widths.row in
    let next = column_end n 1 (2 ^ row_low widths) in
    omega arith

-- a block type weighs twice what the half weighs
block_half : (widths : FieldWidths) → AreWidths widths → 2 ^ block_low widths ≡ 2 * 2 ^ half_low widths
block_half widths w =
    let split : 2 ^ block_low widths ≡ 2 ^ half_low widths * 2 ^ widths.half = pow-add 2 (half_low widths) widths.half in
    let half : 2 ^ widths.half ≡ 2 = ap (λ n. 2 ^ n) w.half in
    split ∙ ap (λ n. 2 ^ half_low widths * n) half ∙ (omega arith)

half_end : (widths : FieldWidths) (r : RowData) → AreWidths widths → IsRow r →
    r.half * 2 ^ half_low widths + r.row * 2 ^ row_low widths + 2 ^ row_low widths ≤ 2 ^ block_low widths
half_end widths r w is =
    let row = row_end widths r.row w is.row in
    let half : r.half * 2 ^ half_low widths ≤ 1 * 2 ^ half_low widths = mul-le-mul_right (2 ^ half_low widths) is.half in
    let block = block_half widths w in
    omega arith

-- a row's addresses have the width of an address
pub row_within : (widths : FieldWidths) (r : RowData) → AreWidths widths → IsRow r → row_address widths r + 2 ^ row_low widths ≤ 2 ^ address_width widths
row_within widths r w is =
    let inner = half_end widths r w is in
    let block : r.block * 2 ^ block_low widths ≤ 2 * 2 ^ block_low widths = mul-le-mul_right (2 ^ block_low widths) is.block in
    let four : 2 ^ 2 ≤ 2 ^ widths.block = two_to 2 widths.block w.block.0 in
    let times : 2 ^ block_low widths * 4 ≤ 2 ^ block_low widths * 2 ^ widths.block = mul-le-mul_left (2 ^ block_low widths) four in
    let split : 2 ^ address_width widths ≡ 2 ^ block_low widths * 2 ^ widths.block = pow-add 2 (block_low widths) widths.block in
    omega arith

-- a row's addresses stay below 2^32
pub row_top : (widths : FieldWidths) (r : RowData) → AreWidths widths → IsRow r → row_address widths r + 2 ^ row_low widths ≤ 2 ^ 32
row_top widths r w is =
    let within : row_address widths r + 2 ^ row_low widths ≤ 2 ^ address_width widths = row_within widths r w is in
    let all : 2 ^ address_width widths ≤ 2 ^ 32 = two_to (address_width widths) 32 w.sum in
    omega arith

-- ---- two rows

-- where n is below m, n times a weight and once more is at most m times the weight
step : (n m weight : ℕ) → n < m → n * weight + weight ≤ m * weight
step n m weight h =
    let times : (n + 1) * weight ≤ m * weight = mul-le-mul_right weight (omega arith) in
    let next = column_end n 1 weight in
    omega arith

-- two rows are of one block type, half and row number, or all addresses of one lie before those of the other
pub data Order (widths : FieldWidths) (r s : RowData) : Type 0 where
  rows_same : r.block ≡ s.block → r.half ≡ s.half → r.row ≡ s.row → Order widths r s
  row_before : row_address widths r + 2 ^ row_low widths ≤ row_address widths s → Order widths r s
  row_after : row_address widths s + 2 ^ row_low widths ≤ row_address widths r → Order widths r s

by_block : (widths : FieldWidths) (r s : RowData) → AreWidths widths → IsRow r → r.block < s.block → row_address widths r + 2 ^ row_low widths ≤ row_address widths s
by_block widths r s w is h =
    let inner = half_end widths r w is in
    let more = step r.block s.block (2 ^ block_low widths) h in
    omega arith

by_half : (widths : FieldWidths) (r s : RowData) → AreWidths widths → IsRow r → r.block ≡ s.block → r.half < s.half →
    row_address widths r + 2 ^ row_low widths ≤ row_address widths s
by_half widths r s w is b h =
    let inner = row_end widths r.row w is.row in
    let more = step r.half s.half (2 ^ half_low widths) h in
    let block : r.block * 2 ^ block_low widths ≡ s.block * 2 ^ block_low widths = ap (λ n. n * 2 ^ block_low widths) b in
    omega arith

by_row : (widths : FieldWidths) (r s : RowData) → r.block ≡ s.block → r.half ≡ s.half → r.row < s.row → row_address widths r + 2 ^ row_low widths ≤ row_address widths s
by_row widths r s b e h =
    let more = step r.row s.row (2 ^ row_low widths) h in
    let block : r.block * 2 ^ block_low widths ≡ s.block * 2 ^ block_low widths = ap (λ n. n * 2 ^ block_low widths) b in
    let half : r.half * 2 ^ half_low widths ≡ s.half * 2 ^ half_low widths = ap (λ n. n * 2 ^ half_low widths) e in
    omega arith

order_rows : (widths : FieldWidths) (r s : RowData) → AreWidths widths → r.block ≡ s.block → r.half ≡ s.half → Order widths r s
order_rows widths r s w b e =
    elim (cases_order r.row s.row) [
      | inl equal ↦ rows_same b e equal
      | inr (inl less) ↦ row_before (by_row widths r s b e less)
      | inr (inr more) ↦ row_after (by_row widths s r (sym b) (sym e) more)
    ]

order_halves : (widths : FieldWidths) (r s : RowData) → AreWidths widths → IsRow r → IsRow s → r.block ≡ s.block → Order widths r s
order_halves widths r s w a c b =
    elim (cases_order r.half s.half) [
      | inl equal ↦ order_rows widths r s w b equal
      | inr (inl less) ↦ row_before (by_half widths r s w a b less)
      | inr (inr more) ↦ row_after (by_half widths s r w c (sym b) more)
    ]

pub order_of : (widths : FieldWidths) (r s : RowData) → AreWidths widths → IsRow r → IsRow s → Order widths r s
order_of widths r s w a c =
    elim (cases_order r.block s.block) [
      | inl equal ↦ order_halves widths r s w a c equal
      | inr (inl less) ↦ row_before (by_block widths r s w a less)
      | inr (inr more) ↦ row_after (by_block widths s r w c more)
    ]

pub some_weight : (widths : FieldWidths) → 1 ≤ 2 ^ row_low widths
some_weight widths = let p = pow_pos (row_low widths) in omega arith

pub gap : (widths : FieldWidths) (r s : RowData) → AreWidths widths → IsRow r → IsRow s → row_address widths r < row_address widths s →
    row_address widths r + 2 ^ row_low widths ≤ row_address widths s
gap widths r s w a c h = by (order_of widths r s w a c)
  where
    by : Order widths r s → row_address widths r + 2 ^ row_low widths ≤ row_address widths s
    by (rows_same b e n) = absurd (omega (arith, h, ap (λ n. n * 2 ^ block_low widths) b, ap (λ n. n * 2 ^ half_low widths) e, ap (λ n. n * 2 ^ row_low widths) n))
    by (row_before k) = k
    by (row_after k) = absurd (omega (arith, h, k))

rows_before : (widths : FieldWidths) (r s : RowData) → AreWidths widths → IsRow s → r.block ≡ s.block → r.half ≡ s.half → row_address widths r < row_address widths s → r.row < s.row
rows_before widths r s w c b e h =
    let block : r.block * 2 ^ block_low widths ≡ s.block * 2 ^ block_low widths = ap (λ n. n * 2 ^ block_low widths) b in
    let half : r.half * 2 ^ half_low widths ≡ s.half * 2 ^ half_low widths = ap (λ n. n * 2 ^ half_low widths) e in
    elim (cases_order r.row s.row) [
      | inl equal ↦ absurd (omega (arith, h, block, half, ap (λ n. n * 2 ^ row_low widths) equal))
      | inr (inl less) ↦ less
      | inr (inr more) ↦ absurd (omega (arith, h, by_row widths s r (sym b) (sym e) more))
    ]

halves_before : (widths : FieldWidths) (r s : RowData) → AreWidths widths → IsRow s → r.block ≡ s.block → row_address widths r < row_address widths s →
    (r.half < s.half) ⊎ ((r.half ≡ s.half) × (r.row < s.row))
halves_before widths r s w c b h =
    elim (cases_order r.half s.half) [
      | inl equal ↦ inr (equal, rows_before widths r s w c b equal h)
      | inr (inl less) ↦ inl less
      | inr (inr more) ↦ absurd (omega (arith, h, by_half widths s r w c (sym b) more))
    ]

-- a smaller address is that of a row before
pub before_of : (widths : FieldWidths) (r s : RowData) → AreWidths widths → IsRow s → row_address widths r < row_address widths s → IsBefore r s
before_of widths r s w c h =
    elim (cases_order r.block s.block) [
      | inl equal ↦ inr (equal, halves_before widths r s w c equal h)
      | inr (inl less) ↦ inl less
      | inr (inr more) ↦ absurd (omega (arith, h, by_block widths s r w c more))
    ]

-- the weights of a row's numbers fit 32 bits, one by one and added up
pub record Fits (widths : FieldWidths) (r : RowData) : Type 0 where
  pub block : r.block * 2 ^ block_low widths < 2 ^ 32
  pub half : r.half * 2 ^ half_low widths < 2 ^ 32
  pub row : r.row * 2 ^ row_low widths < 2 ^ 32
  pub two : r.block * 2 ^ block_low widths + r.half * 2 ^ half_low widths < 2 ^ 32
  pub all : row_address widths r < 2 ^ 32

pub row_fits : (widths : FieldWidths) (r : RowData) → AreWidths widths → IsRow r → Fits widths r
row_fits widths r w is =
    let top = row_top widths r w is in
    let some = some_weight widths in
    record { block = omega arith; half = omega arith; row = omega arith; two = omega arith; all = omega arith }

-- a row's columns end at or before 2^32
pub base_fits : (widths : FieldWidths) (r s : RowData) (base pitch : ℕ) (minors : List ℕ) → AreWidths widths → IsRow r → r ≡ s → base ≡ row_address widths s →
    pitch ≡ 2 ^ column_low widths → minors ≡ s.minors → base + length minors * pitch ≤ 2 ^ 32
base_fits widths r s base pitch minors w is same at wide items =
    rw (at, wide, items, ← same) (let top = row_top widths r w is in let fit = columns_fit widths (length r.minors) w is.columns in omega arith)

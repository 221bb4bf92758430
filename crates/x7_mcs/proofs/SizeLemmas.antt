-- How long a text is: at most 15 characters for each 4 bytes, and what its last row and its end may add.
use Rattle.std.proofs.Common.{◌≡◌, ℕ, ◌+◌, ◌*◌, ◌/◌, ◌%◌, ◌≤◌, ◌==◌, Bool, true, false, if◌then◌else◌, List, [], ◌∷◌, ◌++◌, length, codes, ap, arith, length-append, flat_map}
use Rattle.x7_text.specs.Digits.{hex_byte}
use Rattle.x7_text.specs.Row.{AreFullButLast, rows}
use Rattle.x7_text.proofs.RowLemmas.{rows_full, rows_joined}
use Rattle.x7_text.proofs.WholeLineLemmas.{length_hex_bytes}
use Rattle.x7_mcs.specs.Record.{block_size, sum_byte}
use Rattle.x7_mcs.specs.Text.{base_line, block_start, data_line, mcs_text, record_line, row_lines}

record_long : (bs : List ℕ) → length (record_line bs) ≡ 2 * length bs + 4
record_long bs =
    let digits : length (flat_map hex_byte (bs ++ sum_byte bs ∷ [])) ≡ 2 * length (bs ++ sum_byte bs ∷ []) = length_hex_bytes (bs ++ sum_byte bs ∷ []) in
    let line : length (flat_map hex_byte (bs ++ sum_byte bs ∷ []) ++ 10 ∷ []) ≡ length (flat_map hex_byte (bs ++ sum_byte bs ∷ [])) + 1 = length-append (flat_map hex_byte (bs ++ sum_byte bs ∷ [])) (10 ∷ []) in
    omega (arith, digits, line, length-append bs (sum_byte bs ∷ []))

data_long : (address : ℕ) (bs : List ℕ) → length (data_line address bs) ≡ 2 * length bs + 12
data_long address bs = omega (arith, record_long (length bs ∷ address / 256 ∷ address % 256 ∷ 0 ∷ bs))

start_by : (block : ℕ) (begins : Bool) → length (if begins then base_line block else []) ≤ 16
start_by block true = omega (arith, record_long (2 ∷ 0 ∷ 0 ∷ 4 ∷ block / 256 ∷ block % 256 ∷ []))
start_by block false = omega arith

-- a row's lines: its data record, and a record 04 where a block begins
row_long : (place : ℕ) (r : List ℕ) (more : List ℕ) → length (block_start place ++ data_line (place % block_size) r ++ more) ≤ 2 * length r + 28 + length more
row_long place r more =
    omega (
      arith,
      length-append (block_start place ++ data_line (place % block_size) r) more,
      length-append (block_start place) (data_line (place % block_size) r),
      data_long (place % block_size) r,
      start_by (place / block_size) (place % block_size == 0),
    )

rows_long : (place : ℕ) (rs : List (List ℕ)) → AreFullButLast 16 rs → 4 * length (row_lines place rs) ≤ 15 * length (flat_map (λ (r : List ℕ). r) rs) + 112
rows_long place [] full = omega arith
rows_long place (r ∷ []) full = omega (arith, row_long place r [], full.0, length-append r [])
rows_long place (r ∷ s ∷ rs) full =
    omega (
      arith,
      row_long place r (row_lines (place + length r) (s ∷ rs)),
      full.0,
      rows_long (place + length r) (s ∷ rs) full.1,
      length-append r (flat_map (λ (t : List ℕ). t) (s ∷ rs)),
    )

pub text_short : (bytes : List ℕ) → 4 * length (mcs_text bytes) ≤ 15 * length bytes + 160
text_short bytes =
    let joined : length (flat_map (λ (r : List ℕ). r) (rows 16 bytes)) ≡ length bytes = ap length (rows_joined 16 [] bytes) in
    omega (arith, joined, rows_long 0 (rows 16 bytes) (rows_full 16 [] bytes (omega arith)), length-append (row_lines 0 (rows 16 bytes)) (codes ":00000001FF\n"))

-- A sheet: what is stored after its text.
use Rattle.std.proofs.Common.{◌≡◌, ℕ, ◌+◌, ◌≤◌, List, ◌++◌, inl, inr, length, min, take, drop, refl, ap, sym, ◌∙◌, append_assoc, arith}
use Rattle.std.proofs.Math.Seq.{take-append-add}
use Rattle.std.proofs.lemmas.Bool.{cases_lt}
use Rattle.std.proofs.lemmas.List.{length-take-le, take-append-le, take_all}
use Rattle.std.proofs.lemmas.Simd.{put_chunk_is}
use Rattle.x7_listing.specs.declared.list.fast.sheet.TheConstants.{SHEET_SIZE}
use lib.Lanes.{put_chunk}

-- the first k bytes of a piece that is stored after a text go on with it
pub stored : (sheet piece new rest : List ℕ) (len k : ℕ) → length sheet ≡ SHEET_SIZE → len + length piece ≤ SHEET_SIZE → k ≤ length piece → new ≡ piece → take (len + k) (take len sheet ++ (new ++ rest)) ≡ take len sheet ++ take k piece
stored sheet piece new rest len k size room few e =
    let prefix : length (take len sheet) ≡ len = length-take-le len sheet (omega (arith, size, room)) in
    ap (λ t. take (len + k) (take len sheet ++ (t ++ rest))) e ∙ ap (λ (m : ℕ). take (m + k) (take len sheet ++ (piece ++ rest))) (sym prefix)
    ∙ take-append-add (take len sheet) (piece ++ rest) k ∙ ap (λ t. take len sheet ++ t) (take-append-le k piece rest few)

-- the first k lanes that are stored after a text, over what stood there, go on with it
pub lanes_stored : (sheet old lanes rest : List ℕ) (len k : ℕ) → length sheet ≡ SHEET_SIZE → len + length lanes ≤ SHEET_SIZE → length lanes ≤ length old → k ≤ length lanes → take (len + k) (take len sheet ++ (put_chunk 0 old lanes ++ rest)) ≡ take len sheet ++ take k lanes
lanes_stored sheet old lanes rest len k size room fits few =
    ap (λ t. take (len + k) (take len sheet ++ (t ++ rest))) (put_chunk_is 0 old lanes (omega (arith, fits))) ∙ ap (λ t. take (len + k) (take len sheet ++ t)) (append_assoc lanes (drop (length lanes) old) rest)
    ∙ stored sheet lanes lanes (drop (length lanes) old ++ rest) len k size room few refl

-- a row has no more text than bytes
pub row_part : (row : List ℕ) (r : ℕ) → length row ≡ 32 → take (min r 32) row ≡ take r row
row_part row r long = elim (cases_lt r 32) [
  | inl below ↦ ap (λ (k : ℕ). take k row) (let e : min r 32 ≡ r = omega (arith, below) in e)
  | inr above ↦ take_all (min r 32) row (omega (arith, long, above)) ∙ sym (take_all r row (omega (arith, long, above)))
]

use Rattle.std.proofs.Common.{◌≡◌, ◌-◌, ◌++◌, ◌∙◌, ℕ, List, ap, arith, drop, length, length-drop, length-take-le, slice_index, take}
use Rattle.x7_listing.proofs.list.fast.SheetLemmas.{lanes_stored, row_part}
use Rattle.x7_listing.proofs.list.fast.sheet.put_row.Goals as goal

pub returns-clause-appends : goal.returns-clause-appends
returns-clause-appends c =
    let sheet = c.args.sheet.now in
    let row = c.args.row.now in
    let len = c.args.len in
    let size : length sheet ≡ 2048 = c.told-sheet in
    let old : List ℕ = take (2048 - len) (drop len sheet) in
    let left : length (take (2048 - len) (drop len sheet)) ≡ 2048 - len = length-take-le (2048 - len) (drop len sheet) (omega (arith, length-drop len sheet, size)) in
    lanes_stored sheet old row (drop (2048 - len) (drop len sheet)) len c.min.result c.told-sheet (omega (arith, c.told-row, c.requires.room)) (omega (arith, c.told-row, c.requires.room, left)) (omega (arith, c.min.ensures, c.told-row))
    ∙ ap (λ (k : ℕ). take len sheet ++ take k row) c.min.ensures
    ∙ ap (λ (t : List ℕ). take len sheet ++ t) (row_part row (slice_index row 31) c.told-row)

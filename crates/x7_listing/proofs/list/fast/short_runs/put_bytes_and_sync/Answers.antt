use Rattle.std.proofs.Common.{◌+◌, ◌*◌, ◌++◌, ◌∷◌, [], arith, refl, sym, take}
use Rattle.x7_text.proofs.WindowLemmas.{first_of_line}
use Rattle.x7_listing.proofs.list.fast.OnSheetLemmas.{gap_shown}
use Rattle.x7_listing.proofs.list.fast.short_runs.put_bytes_and_sync.Goals as goal

pub returns-clause-appends : goal.returns-clause-appends
returns-clause-appends c =
    let listed = first_of_line [] c.bytes_line.result (take (6 + 2 * c.args.count) c.bytes_line.result) (take (6 + 2 * c.args.count) c.bytes_line.result ++ 10 ∷ [])
    c.args.bytes.now (6 + 2 * c.args.count) c.args.count (omega (arith, c.if-count-eq0.false)) c.requires.in_row c.told-bytes c.bytes_line.ensures (omega arith) refl
    refl in
    gap_shown (take c.args.len c.args.sheet.now) (take (6 + 2 * c.args.count) c.bytes_line.result) _ _ _ c.put_prefix-end.ensures.appends c.put_whole-2.ensures.appends (sym listed)

use Rattle.std.proofs.Common.{arith, take}
use Rattle.x7_listing.proofs.list.fast.OnSheetLemmas.{head_shown, row_after}
use Rattle.x7_listing.proofs.list.fast.short_runs.put_head.Goals as goal

pub returns-clause-appends : goal.returns-clause-appends
returns-clause-appends c =
    head_shown (take c.args.len c.args.sheet.now) _ _ c.args.in_line c.args.write.register c.args.write.count c.args.write.range (omega (arith, c.args.write.short))
    (row_after (take c.args.len c.args.sheet.now) _ _ _ _ c.args.in_line c.put_close-begin.ensures.appends c.put_row-start.ensures.appends c.name_row.ensures) c.put_count.ensures.appends

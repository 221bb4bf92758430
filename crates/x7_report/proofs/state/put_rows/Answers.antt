use Rattle.std.proofs.Common.{◌*◌, ◌+◌, arith}
use Rattle.x7_report.specs.State.{reg_line}
use Rattle.x7_report.proofs.ReportLemmas.{all_appended, item_more, none_appended}
use Rattle.x7_report.proofs.state.put_rows.Goals as goal

pub loop-row-init : goal.loop-row-init
loop-row-init c = none_appended c.args.out.now

pub loop-row-preserved : goal.loop-row-preserved
loop-row-preserved c =
    let i = c.loop-row.row-index in
    item_more reg_line c.args.rows.now _ i (21 * i) (21 * (i + 1)) 21 c.args.out.now c.loop-row.out c.put_row.new.out c.loop-row-test.true (omega arith) c.loop-row.invariant c.put_row.ensures.appends

pub returns : goal.returns
returns c =
    let i = c.loop-row.row-index in
    (all_appended reg_line c.args.rows.now i (21 * i) (21 * i) c.args.out.now c.loop-row.out (omega (arith, c.loop-row-test.false)) (omega arith) c.loop-row.invariant).items

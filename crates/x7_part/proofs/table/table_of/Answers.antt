use Rattle.std.proofs.Common.{ap, ◌∙◌, arith}
use Rattle.x7_part.proofs.WidthLemmas.{base_fits}
use Rattle.x7_part.proofs.TableLemmas.{frames_more, table_more}
use Rattle.x7_part.proofs.table.table_of.Goals as goal

pub add_row-requires-clause-base : goal.add_row-requires-clause-base
add_row-requires-clause-base c =
    base_fits c.args.widths _ c.row-item.result _ _ _ c.column_weight.ensures.widths c.row.invariant c.row.view_is c.address-base.ensures c.column_weight.ensures.value
    (c.deref.ensures.value ∙ ap (λ r. r.minors) c.row.view_is)

pub overflow_add-rank : goal.overflow_add-rank
overflow_add-rank c =
    let m = frames_more c.args.widths c.loop-row.row-index c.args.rows.now c.row-item.result c.loop-row-test.true in
    let n = rw (← c.row-item.is) at m in
    record { fits = omega arith }

pub loop-row-preserved : goal.loop-row-preserved
loop-row-preserved c =
    let m = frames_more c.args.widths c.loop-row.row-index c.args.rows.now c.row-item.result c.loop-row-test.true in
    let n = rw (← c.row-item.is) at m in
    record {
      columns = rw (c.from-in-loop-row.ensures) (table_more c.args.widths c.loop-row.columns.items c.add_row.new.columns.items _ c.loop-row.rank c.loop-row.place c.loop-row.row-index c.frame_count-frame_count.result
          c.from.result c.column_weight.result c.address-base.result c.deref.result.now c.args.rows.now c.row-item.result c.loop-row-test.true c.row-item.is c.column_weight.ensures.value c.address-base.ensures
          (c.deref.ensures.value ∙ ap (λ r. r.minors) c.row.view_is) c.frame_count-frame_count.ensures.value c.from.ensures c.in_ok-add_row.ensures c.loop-row.invariant.columns);
      rank = omega arith;
      place = omega arith;
    }

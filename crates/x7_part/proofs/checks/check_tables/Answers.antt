use Rattle.std.proofs.Common.{◌∙◌, ap, Some, sym}
use Rattle.toml.specs.View.{table_view}
use Rattle.x7_part.specs.Keys.{row_keys}
use Rattle.x7_part.specs.Values.{tables}
use Rattle.x7_part.specs.PartChecks.{check_fault, rows_fault}
use Rattle.x7_part.proofs.FileLemmas.{no_table, table_more}
use Rattle.x7_part.proofs.FirstLemmas.{passes, stops}
use Rattle.x7_part.proofs.LoopLemmas.{row_passed, row_stops}
use Rattle.x7_part.proofs.PassLemmas.{reported_from}
use Rattle.x7_part.proofs.checks.check_tables.Goals as goal

pub loop-item-preserved-in-None : goal.loop-item-preserved-in-None
loop-item-preserved-in-None c =
    ap (rows_fault (λ n. check_fault c.args.check (Some n) row_keys) c.loop-item.number)
    (no_table c.items_under-items.result.now c.loop-item.item-index c.item-item.result c.loop-item-test.true c.item-item.is c.in-None.ensures) ∙ c.loop-item.invariant

pub returns-in_err-check_table-2 : goal.returns-in_err-check_table-2
returns-in_err-check_table-2 c =
    let first = table_more c.items_under-items.result.now c.loop-item.item-index c.item-item.result (table_view c.in-Some.row.now) c.loop-item-test.true c.item-item.is c.in-Some.ensures in
    let all = c.loop-item.invariant ∙ ap (λ ds. rows_fault (λ n. check_fault c.args.check (Some n) row_keys) 1 (tables ds)) c.items_under-items.ensures in
    reported_from c.from_residual-in_err-check_table-2.result c.in_err-check_table-2.field-0.0 c.from_residual-in_err-check_table-2.ensures
    ∙ passes _ _ _ c.in_ok-check_table.ensures
    (stops _ _ _ (sym (row_stops (λ n. check_fault c.args.check (Some n) row_keys) _ _ _ _ c.in_err-check_table-2.field-0.0 _ first all (sym c.in_err-check_table-2.ensures))))

pub loop-item-preserved : goal.loop-item-preserved
loop-item-preserved c =
    let first = table_more c.items_under-items.result.now c.loop-item.item-index c.item-item.result (table_view c.in-Some.row.now) c.loop-item-test.true c.item-item.is c.in-Some.ensures in
    row_passed (λ n. check_fault c.args.check (Some n) row_keys) _ _ _ _ _ first (sym c.in_ok-check_table-2.ensures) c.saturating_add-number.ensures ∙ c.loop-item.invariant

use Rattle.std.proofs.Common.{[], ◌∷◌, ◌++◌, ◌∙◌, ap, map}
use Rattle.toml.specs.View.{table_view}
use Rattle.x7_part.specs.PartChecks.{row_range_fault, rows_fault}
use Rattle.x7_part.specs.Values.{row_of, tables}
use Rattle.x7_part.proofs.FileLemmas.{no_table, table_more}
use Rattle.x7_part.proofs.LoopLemmas.{row_made, row_passed, row_stops}
use Rattle.x7_part.proofs.PassLemmas.{due_or_memory, or_memory}
use Rattle.x7_part.proofs.row.rows_in.Goals as goal

pub loop-item-preserved-in-None : goal.loop-item-preserved-in-None
loop-item-preserved-in-None c =
    let later = no_table c.items_under-items.result.now c.loop-item.item-index c.item-item.result c.loop-item-test.true c.item-item.is c.in-None.ensures in
    record {
      fault = ap (rows_fault row_range_fault c.loop-item.number) later ∙ c.loop-item.invariant.fault;
      rows = ap (λ ts. c.loop-item.rows.items ++ map row_of ts) later ∙ c.loop-item.invariant.rows;
    }

pub loop-item-preserved : goal.loop-item-preserved
loop-item-preserved c =
    let first = table_more c.items_under-items.result.now c.loop-item.item-index c.item-item.result (table_view c.in-Some.row.now) c.loop-item-test.true c.item-item.is c.in-Some.ensures in
    record {
      fault = row_passed row_range_fault _ _ _ _ _ first c.in_ok-row_in.ensures.fault c.saturating_add-number.ensures ∙ c.loop-item.invariant.fault;
      rows = row_made row_of _ _ _ _ _ first (c.in_ok-push.ensures.items ∙ ap (λ v. c.loop-item.rows.items ++ v ∷ []) c.in_ok-row_in.ensures.value) ∙ c.loop-item.invariant.rows;
    }

pub returns-in_err-row_in-clause-fault : goal.returns-in_err-row_in-clause-fault
returns-in_err-row_in-clause-fault c =
    let first = table_more c.items_under-items.result.now c.loop-item.item-index c.item-item.result (table_view c.in-Some.row.now) c.loop-item-test.true c.item-item.is c.in-Some.ensures in
    let all = c.loop-item.invariant.fault ∙ ap (λ ds. rows_fault row_range_fault 1 (tables ds)) c.items_under-items.ensures in
    due_or_memory c.from_residual-in_err-row_in.result c.in_err-row_in.field-0.0 _ c.from_residual-in_err-row_in.ensures
    (or_memory _ _ _ (row_stops row_range_fault _ _ _ _ _ _ first all) c.in_err-row_in.ensures.fault)

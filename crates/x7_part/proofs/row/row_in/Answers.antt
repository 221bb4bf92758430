use Rattle.std.proofs.Common.{◌∙◌, ap, map, sym}
use Rattle.toml.specs.View.{table_view}
use Rattle.x7_part.specs.Address.{IsRow}
use Rattle.x7_part.specs.PartChecks.{are_minors}
use Rattle.x7_part.specs.Values.{natural, row_of, wholes}
use Rattle.x7_part.proofs.RangeLemmas.{row_is, row_tests}
use Rattle.x7_part.proofs.row.row_in.Goals as goal

pub number_up_to-requires : goal.number_up_to-requires
number_up_to-requires c =
    let row : IsRow (row_of (table_view c.args.table.now)) =
    row_is c.args.number (table_view c.args.table.now) (sym (c.in_ok-check_ranges.ensures ∙ row_tests c.args.number (table_view c.args.table.now) _ _ _ _ c.is_up_to.ensures c.is_up_to-2.ensures c.is_up_to-3.ensures
    (c.are_minors.ensures ∙ ap (λ ds. are_minors (wholes ds)) c.items_under-minors.ensures))) in
    row.block

pub number_up_to-requires-2 : goal.number_up_to-requires-2
number_up_to-requires-2 c =
    let row : IsRow (row_of (table_view c.args.table.now)) =
    row_is c.args.number (table_view c.args.table.now) (sym (c.in_ok-check_ranges.ensures ∙ row_tests c.args.number (table_view c.args.table.now) _ _ _ _ c.is_up_to.ensures c.is_up_to-2.ensures c.is_up_to-3.ensures
    (c.are_minors.ensures ∙ ap (λ ds. are_minors (wholes ds)) c.items_under-minors.ensures))) in
    row.half

pub number_up_to-requires-3 : goal.number_up_to-requires-3
number_up_to-requires-3 c =
    let row : IsRow (row_of (table_view c.args.table.now)) =
    row_is c.args.number (table_view c.args.table.now) (sym (c.in_ok-check_ranges.ensures ∙ row_tests c.args.number (table_view c.args.table.now) _ _ _ _ c.is_up_to.ensures c.is_up_to-2.ensures c.is_up_to-3.ensures
    (c.are_minors.ensures ∙ ap (λ ds. are_minors (wholes ds)) c.items_under-minors.ensures))) in
    row.row

pub invariant_of-result : goal.invariant_of-result
invariant_of-result c =
    let row : IsRow (row_of (table_view c.args.table.now)) =
    row_is c.args.number (table_view c.args.table.now) (sym (c.in_ok-check_ranges.ensures ∙ row_tests c.args.number (table_view c.args.table.now) _ _ _ _ c.is_up_to.ensures c.is_up_to-2.ensures c.is_up_to-3.ensures
    (c.are_minors.ensures ∙ ap (λ ds. are_minors (wholes ds)) c.items_under-minors.ensures))) in
    let made = c.in_ok-minors_of.ensures ∙ ap (λ ds. map natural (wholes ds)) c.items_under-minors.ensures in
    record {
      block = c.number_up_to.ensures.within;
      half = c.number_up_to-2.ensures.within;
      row = c.number_up_to-3.ensures.within;
      some = rw made row.some;
      columns = rw made row.columns;
      minors = rw made row.minors;
    }

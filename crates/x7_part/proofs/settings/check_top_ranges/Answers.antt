use Rattle.std.proofs.Common.{◌≡◌, ◌∙◌, List, None, ap, length, sym}
use Rattle.toml.specs.Data.{Members}
use Rattle.toml.specs.View.{items_view, table_view}
use Rattle.toml.specs.declared.value.Value.{Value}
use Rattle.x7_part.specs.Limits.{most_rows}
use Rattle.x7_part.specs.PartChecks.{is_length_in, is_name, type_fault}
use Rattle.x7_part.specs.Values.{items_under, row_tables}
use Rattle.x7_part.specs.declared.fault.PartKey.TheVariants as key
use Rattle.x7_part.proofs.FileLemmas.{row_count}
use Rattle.x7_part.proofs.RangeLemmas.{top_tests}
use Rattle.x7_part.proofs.settings.check_top_ranges.Goals as goal

many : (t : Members) (vs : List Value) → type_fault t ≡ None → items_view vs ≡ items_under key.Row t →
    is_length_in 1 most_rows (length vs) ≡ is_length_in 1 most_rows (length (row_tables t))
many t vs types same = ap (is_length_in 1 most_rows) (sym (row_count t vs types same))

pub returns : goal.returns
returns c =
    c.check_ranges.ensures
    ∙ top_tests (table_view c.args.table.now) _ _ _ _ _ _ _ _ _ _ (record {
      name_is = c.is_name.ensures ∙ ap is_name c.text.ensures;
      idcode_is = c.is_idcode_in_range.ensures;
      mode_is = c.is_up_to.ensures;
      bus_width_is = c.is_up_to-2.ensures;
      lock_is = c.is_up_to-3.ensures;
      matched_is = c.is_up_to-4.ensures;
      words_is = c.are_frame_words_in_range.ensures;
      widths_is = c.is_some.ensures ∙ c.widths_in.ensures.exactly_where;
      start_unit_is = c.is_start_unit_in_range.ensures;
      rows_is = c.is_length_in.ensures ∙ many (table_view c.args.table.now) c.items_under-row_count.result.now c.requires c.items_under-row_count.ensures;
    })

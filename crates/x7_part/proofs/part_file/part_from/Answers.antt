use Rattle.std.proofs.Common.{◌∙◌, [], ◌∷◌, ap, subst, sym}
use Rattle.toml.specs.View.{table_view}
use Rattle.x7_part.specs.PartChecks.{first_of, range_fault, type_fault, other_fault}
use Rattle.x7_part.specs.PartFile.{first_fault}
use Rattle.x7_part.specs.Row.{same_row_fault, frames_fault}
use Rattle.x7_part.specs.Values.{part_with, rows_in_file}
use Rattle.x7_part.proofs.FirstLemmas.{passes, stops}
use Rattle.x7_part.proofs.PassLemmas.{Passed, Whole, same_part, due_from, due_or_memory, or_memory, few_rows, rest_is, whole_is}
use Rattle.x7_part.specs.Ranges.{IsPart}
use Rattle.x7_part.proofs.part_file.part_from.Goals as goal
use Rattle.x7_part.proofs.part_file.part_from.Goals.{In_ok-name}

pub returns-in_err-check_tables-clause-fault : goal.returns-in_err-check_tables-clause-fault
unfolding first_fault type_fault
returns-in_err-check_tables-clause-fault c =
    due_from c.from_residual.result c.in_err-check_tables.field-0.0 _ c.from_residual.ensures (stops _ _ _ c.in_err-check_tables.ensures)

pub returns-in_err-check_tables-2-clause-fault : goal.returns-in_err-check_tables-2-clause-fault
unfolding first_fault type_fault other_fault
returns-in_err-check_tables-2-clause-fault c =
    due_from c.from_residual-in_err-check_tables-2.result c.in_err-check_tables-2.field-0.0 _ c.from_residual-in_err-check_tables-2.ensures
    (passes _ _ _ c.in_ok-check_tables.ensures (stops _ _ _ c.in_err-check_tables-2.ensures))

pub check_top_ranges-requires : goal.check_top_ranges-requires
unfolding type_fault
check_top_ranges-requires c = sym c.in_ok-check_tables.ensures

pub returns-in_err-check_top_ranges-clause-fault : goal.returns-in_err-check_top_ranges-clause-fault
unfolding first_fault type_fault other_fault range_fault
returns-in_err-check_top_ranges-clause-fault c =
    due_from c.from_residual-in_err-check_top_ranges.result c.in_err-check_top_ranges.field-0.0 _ c.from_residual-in_err-check_top_ranges.ensures
    (passes _ _ _ c.in_ok-check_tables.ensures (passes _ _ _ c.in_ok-check_tables-2.ensures (stops _ _ _ (stops _ _ _ c.in_err-check_top_ranges.ensures))))

pub returns-in_err-rows-clause-fault : goal.returns-in_err-rows-clause-fault
unfolding first_fault type_fault other_fault range_fault
returns-in_err-rows-clause-fault c =
    due_or_memory c.from_residual-in_err-rows.result c.in_err-rows.field-0.0 _ c.from_residual-in_err-rows.ensures
    (or_memory _ _ _ (λ e. sym (passes _ _ _ c.in_ok-check_tables.ensures (passes _ _ _ c.in_ok-check_tables-2.ensures
    (stops _ _ _ (passes _ _ _ c.in_ok-check_top_ranges.ensures (stops _ _ _ (sym e))))))) c.in_err-rows.ensures.fault)

pub settings_in-settings-requires : goal.settings_in-settings-requires
settings_in-settings-requires c = sym c.in_ok-check_top_ranges.ensures

pub check_rows-requires-clause-rows : goal.check_rows-requires-clause-rows
check_rows-requires-clause-rows c = rw (c.deref.ensures.value, c.in_ok-rows.ensures.value) (few_rows (table_view c.args.table.now) c.in_ok-check_top_ranges.ensures)

pub returns-in_err-check_rows-clause-fault : goal.returns-in_err-check_rows-clause-fault
unfolding type_fault other_fault
returns-in_err-check_rows-clause-fault c =
    let t = table_view c.args.table.now in
    let pass : Passed t = record { types = c.in_ok-check_tables.ensures; others = c.in_ok-check_tables-2.ensures; before = c.in_ok-check_top_ranges.ensures; each = c.in_ok-rows.ensures.fault } in
    let rows = c.deref.ensures.value ∙ c.in_ok-rows.ensures.value in
    let wide = sym (c.from.ensures ∙ ap (λ s. s.frame_words) c.settings_in-settings.ensures) in
    let found = c.in_err-check_rows.ensures (part_with t (rows_in_file t)) wide (sym rows) ∙ ap (λ rs. first_of (same_row_fault [] rs ∷ frames_fault (part_with t (rows_in_file t)) ∷ [])) rows in
    due_from c.from_residual-in_err-check_rows.result c.in_err-check_rows.field-0.0 _ c.from_residual-in_err-check_rows.ensures (found ∙ sym (rest_is t pass))

whole : (c : In_ok-name) → Whole (table_view c.args.table.now)
unfolding type_fault other_fault
whole c =
    let t = table_view c.args.table.now in
    let pass : Passed t = record { types = c.in_ok-check_tables.ensures; others = c.in_ok-check_tables-2.ensures; before = c.in_ok-check_top_ranges.ensures; each = c.in_ok-rows.ensures.fault } in
    let rows = c.deref.ensures.value ∙ c.in_ok-rows.ensures.value in
    let wide = sym (c.from.ensures ∙ ap (λ s. s.frame_words) c.settings_in-settings.ensures) in
    let found = c.in_ok-check_rows.ensures (part_with t (rows_in_file t)) wide (sym rows) ∙ ap (λ rs. first_of (same_row_fault [] rs ∷ frames_fault (part_with t (rows_in_file t)) ∷ [])) rows in
    whole_is t pass found

pub of-requires-clause-rows : goal.of-requires-clause-rows
of-requires-clause-rows c = rw c.in_ok-rows.ensures.value (whole c).all

pub of-requires-clause-apart : goal.of-requires-clause-apart
of-requires-clause-apart c = rw c.in_ok-rows.ensures.value (whole c).apart

pub of-requires-clause-part : goal.of-requires-clause-part
of-requires-clause-part c = subst IsPart (sym (same_part _ _ _ _ (c.in_ok-name.ensures.ok ∙ c.text.ensures) c.settings_in-settings.ensures c.in_ok-rows.ensures.value)) (whole c).part

pub returns-clause-fault : goal.returns-clause-fault
unfolding type_fault other_fault
returns-clause-fault c =
    let t = table_view c.args.table.now in
    let pass : Passed t = record { types = c.in_ok-check_tables.ensures; others = c.in_ok-check_tables-2.ensures; before = c.in_ok-check_top_ranges.ensures; each = c.in_ok-rows.ensures.fault } in
    let rows = c.deref.ensures.value ∙ c.in_ok-rows.ensures.value in
    let wide = sym (c.from.ensures ∙ ap (λ s. s.frame_words) c.settings_in-settings.ensures) in
    let found = c.in_ok-check_rows.ensures (part_with t (rows_in_file t)) wide (sym rows) ∙ ap (λ rs. first_of (same_row_fault [] rs ∷ frames_fault (part_with t (rows_in_file t)) ∷ [])) rows in
    (whole_is t pass found).none

pub returns-clause-part : goal.returns-clause-part
returns-clause-part c = c.in_ok-of.ensures ∙ same_part _ _ _ _ (c.in_ok-name.ensures.ok ∙ c.text.ensures) c.settings_in-settings.ensures c.in_ok-rows.ensures.value

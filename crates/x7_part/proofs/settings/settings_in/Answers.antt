use Rattle.std.proofs.Common.{◌∙◌}
use Rattle.std.proofs.lemmas.Bool.{false≢true}
use Rattle.toml.specs.View.{table_view}
use Rattle.x7_part.proofs.RangeLemmas.{top_ranges, unit_most}
use Rattle.x7_part.proofs.settings.settings_in.Goals as goal

pub unreachable-requires : goal.unreachable-requires
unreachable-requires c = false≢true (c.in_default.ensures.exactly_where ∙ (top_ranges (table_view c.args.table.now) c.requires).widths)

pub number_up_to-requires : goal.number_up_to-requires
number_up_to-requires c = (top_ranges (table_view c.args.table.now) c.requires).idcode.0

pub number_up_to-requires-2 : goal.number_up_to-requires-2
number_up_to-requires-2 c = (top_ranges (table_view c.args.table.now) c.requires).mode

pub number_up_to-requires-3 : goal.number_up_to-requires-3
number_up_to-requires-3 c = (top_ranges (table_view c.args.table.now) c.requires).bus_width

pub number_up_to-requires-4 : goal.number_up_to-requires-4
number_up_to-requires-4 c = (top_ranges (table_view c.args.table.now) c.requires).lock

pub number_up_to-requires-5 : goal.number_up_to-requires-5
number_up_to-requires-5 c = (top_ranges (table_view c.args.table.now) c.requires).matched

pub number_up_to-requires-6 : goal.number_up_to-requires-6
number_up_to-requires-6 c = (top_ranges (table_view c.args.table.now) c.requires).words.1

pub number_up_to-requires-7 : goal.number_up_to-requires-7
number_up_to-requires-7 c = unit_most _ (top_ranges (table_view c.args.table.now) c.requires).start_unit

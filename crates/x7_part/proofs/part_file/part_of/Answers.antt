use Rattle.toml.specs.View.{table_view}
use Rattle.x7_part.proofs.PassLemmas.{handed_from, toml_fault, reported, given}
use Rattle.x7_part.proofs.BlankLemmas.{unnamed}
use Rattle.x7_part.proofs.part_file.part_of.Goals as goal

pub returns-in_err-table_in-clause-fault : goal.returns-in_err-table_in-clause-fault
returns-in_err-table_in-clause-fault c =
    handed_from c.from_residual.result c.args.text.now c.in_err-table_in.field-0.0 c.from_residual.ensures
    (toml_fault c.args.text.now c.in_err-table_in.field-0.0 c.in_err-table_in.ensures.fault)

pub returns-clause-part : goal.returns-clause-part
returns-clause-part c = given c.part_from.result c.args.text.now (table_view c.in_ok-table_in.field-0) c.in_ok-table_in.ensures.table c.part_from.ensures.fault c.part_from.ensures.part

pub returns-clause-fault : goal.returns-clause-fault
returns-clause-fault c = reported c.part_from.result c.args.text.now (table_view c.in_ok-table_in.field-0) c.in_ok-table_in.ensures.table c.part_from.ensures.fault

pub returns-clause-blank : goal.returns-clause-blank
returns-clause-blank c h = c.part_from.ensures.unnamed (unnamed c.args.text.now (table_view c.in_ok-table_in.field-0) h c.in_ok-table_in.ensures.table)

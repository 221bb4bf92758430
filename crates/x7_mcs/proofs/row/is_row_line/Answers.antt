use Rattle.std.proofs.Common.{arith}
use Rattle.x7_text.proofs.DigitLemmas.{same_yes}
use Rattle.x7_mcs.proofs.RowLemmas.{not_other, row_stands}
use Rattle.x7_mcs.proofs.row.is_row_line.Goals as goal

pub returns : goal.returns
returns c h =
    row_stands c.args.address c.sum_byte_of_row.result c.args.line.now c.args.content.now c.hex_of_fields.result c.hex_of_sixteen.result.0 c.hex_of_sixteen.result.1 c.hex_of_byte.result c.sixteen_in.result c.sixteen_in-2.result c.fields_in.result
    c.told-line c.told-content (omega arith) (omega arith) c.sixteen_in.ensures c.sixteen_in-2.ensures c.fields_in.ensures
    (not_other _ _ c.ne.result c.ne.ensures c.if-ne.false) (not_other _ _ c.ne-2.result c.ne-2.ensures c.if-ne-2.false)
    (not_other _ _ c.ne-3.result c.ne-3.ensures c.if-ne-3.false) (same_yes _ _ c.eq.result c.eq.ensures h)
    c.sum_byte_of_row.ensures c.hex_of_fields.ensures c.hex_of_sixteen.ensures c.hex_of_byte.ensures

use Rattle.x7_crc.proofs.BlockLemmas.{four_zeros}
use Rattle.x7_crc.proofs.table.check_of_zeros.Goals as goal

pub returns : goal.returns
returns c =
    four_zeros c.args.register c.fold_by_tables.result c.fold_by_tables-two.result c.fold_by_tables-2.result c.fold_by_tables-3.result
    c.fold_by_tables.ensures c.fold_by_tables-two.ensures c.fold_by_tables-2.ensures c.fold_by_tables-3.ensures

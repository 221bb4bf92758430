use Rattle.std.proofs.Common.{sym}
use Rattle.x7_crc.proofs.BlockLemmas.{one_write}
use Rattle.x7_crc.proofs.table.fold_by_tables.Goals as goal

pub returns : goal.returns
returns c = rw (c.advance_last.ensures, c.advance_register.ensures) (sym (one_write c.args.before c.args.register c.args.word c.ranges.before.fits c.requires c.ranges.word.fits))

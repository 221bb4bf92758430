use Rattle.std.proofs.Common.{[], ◌∷◌, ◌∙◌}
use Rattle.x7_crc.proofs.CheckLemmas.{check_after_linear, check_of_more}
use Rattle.x7_crc.proofs.check.fold.Goals as goal
use Rattle.x7_packets.specs.CheckedWrites.{write_to}

pub returns-clause-value : goal.returns-clause-value
returns-clause-value c = c.fold_by_tables.ensures

pub returns-clause-goes_on : goal.returns-clause-goes_on
returns-clause-goes_on c writes e = c.fold_by_tables.ensures ∙ check_of_more c.args.before writes (write_to c.args.register c.args.word ∷ []) e

pub returns-clause-linear : goal.returns-clause-linear
returns-clause-linear c = c.fold_by_tables.ensures ∙ check_after_linear c.args.before c.args.register c.args.word c.ranges.before.fits c.requires c.ranges.word.fits

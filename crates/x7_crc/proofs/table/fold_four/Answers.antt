use Rattle.x7_crc.proofs.BlockLemmas.{four_at_once}
use Rattle.x7_crc.proofs.table.fold_four.Goals as goal

pub returns : goal.returns
returns c register r z =
    rw (c.advance_first.ensures, c.advance_second.ensures, c.advance_third.ensures, c.advance_last.ensures)
    (four_at_once c.args.before register c.args.first c.args.second c.args.third c.args.last c.args.zeros c.ranges.before.fits r
    c.ranges.first.fits c.ranges.second.fits c.ranges.third.fits c.ranges.last.fits z)

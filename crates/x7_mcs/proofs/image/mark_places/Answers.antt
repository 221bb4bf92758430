use Rattle.std.proofs.Common.{◌+◌, arith}
use Rattle.x7_mcs.proofs.PlaceLemmas.{marked_on}
use Rattle.x7_mcs.proofs.image.mark_places.Goals as goal

pub loop-at-preserved : goal.loop-at-preserved
loop-at-preserved c = record {
  since = omega arith;
  before = omega arith;
  small = omega arith;
  within = omega (arith, c.mark_place.ensures.length, c.loop-at.invariant.within);
  marked = λ p. marked_on _ _ _ c.args.place c.loop-at.at (c.loop-at.at + 1) p c.loop-at.invariant.since (omega arith) (c.mark_place.ensures.marked p) (c.loop-at.invariant.marked p);
}

pub loop-at-preserved-then-end-at-ge-PLACES_PER_MARK : goal.loop-at-preserved-then-end-at-ge-PLACES_PER_MARK
loop-at-preserved-then-end-at-ge-PLACES_PER_MARK c = record {
  since = omega arith;
  before = omega arith;
  small = omega arith;
  within = omega (arith, c.mark_sixteen.ensures.length, c.loop-at.invariant.within);
  marked = λ p. marked_on _ _ _ c.args.place c.loop-at.at (c.loop-at.at + 16) p c.loop-at.invariant.since (omega arith) (c.mark_sixteen.ensures.marked p) (c.loop-at.invariant.marked p);
}

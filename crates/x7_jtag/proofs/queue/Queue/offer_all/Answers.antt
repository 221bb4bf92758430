use Rattle.std.proofs.Common.{length, arith, ap}
use Rattle.x7_jtag.proofs.GiveLemmas.{offers_end, offers_more, rest_after}
use Rattle.x7_jtag.proofs.queue.Queue.offer_all.Goals as goal

pub loop-rest-preserved : goal.loop-rest-preserved
loop-rest-preserved c = record {
  offers = λ part m s.
      offers_more part _ c.loop-rest.self c.offer_some-count.new.self c.args.device.now c.loop-rest.device c.offer_some-count.new.device c.args.bytes.now c.loop-rest.rest.now c.offer_some-count.result c.offer_some-count.ensures.within
      (c.loop-rest.invariant.offers part) (c.offer_some-count.ensures.queue part) m s;
  fits = omega (arith, c.loop-rest.invariant.fits, c.offer_some-count.ensures.at_most, c.offer_some-count.ensures.within, ap length (rest_after c.offer_some-count.result c.loop-rest.rest.now));
}

pub returns : goal.returns
returns c = record {
  queue = λ part q s.
      offers_end part c.args.self.now c.loop-rest.self c.args.device.now c.loop-rest.device c.args.bytes.now c.loop-rest.rest.now (grind (arith, c.loop-rest-test.false, c.loop-rest-test.ensures)) (c.loop-rest.invariant.offers part) q s;
}

use Rattle.std.proofs.Common.{◌-◌, arith}
use Rattle.x7_planner.proofs.BurstLemmas.{address_at, burst_found, burst_more, burst_whole}
use Rattle.x7_planner.proofs.burst.burst_length.Goals as goal

pub returns-then-not-follows : goal.returns-then-not-follows
returns-then-not-follows c =
    burst_found c.args.part.now c.args.frames.now c.loop-k.k _ c.follows.result c.loop-k.invariant.0 c.loop-k-test.true c.loop-k.invariant.1 c.follows.ensures c.if-not-follows.true

pub loop-k-preserved : goal.loop-k-preserved
loop-k-preserved c = (
  omega arith,
  burst_more c.args.part.now c.args.frames.now c.loop-k.k _ c.follows.result c.loop-k.invariant.0 c.loop-k-test.true c.loop-k.invariant.1 c.follows.ensures c.if-not-follows.false,
)

pub follows-requires : goal.follows-requires
follows-requires c = address_at c.args.part.now c.args.frames.now (c.loop-k.k - 1) _ c.requires.addresses (omega (arith, c.loop-k-test.true))

pub returns : goal.returns
returns c = burst_whole c.args.part.now c.args.frames.now c.loop-k.k c.requires.at_least_one (omega (arith, c.loop-k-test.false)) (omega (arith, c.loop-k.auto.k-end)) c.loop-k.invariant.1

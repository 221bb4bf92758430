use Rattle.std.proofs.Common.{arith}
use Rattle.x7_planner.proofs.GroupLemmas.{copies_begin, copies_end, copies_more}
use Rattle.x7_planner.proofs.SlotLemmas.{and_packet, last_packet, packets_written}
use Rattle.x7_planner.proofs.group.put_copies.Goals as goal

pub loop-k-init : goal.loop-k-init
loop-k-init c = (omega arith, copies_begin c.args.by_content.now.frames.now c.args._words.now c.args.out.now.items c.args.start c.requires.together c.requires.first)

pub returns-then-by_content-k : goal.returns-then-by_content-k
returns-then-by_content-k c =
    copies_end c.args.by_content.now.frames.now c.args._words.now c.args.by_content.now.firsts.now c.args.out.now.items c.loop-k.out.items c.args.start c.loop-k.k _ c.requires.together c.requires.firsts c.requires.first c.loop-k.invariant.0 c.loop-k-test.true c.if-by_content-k.true
    c.loop-k.invariant.1

pub loop-k-preserved : goal.loop-k-preserved
loop-k-preserved c = (
  (let h = c.loop-k.invariant.0 in omega (arith, h)),
  copies_more c.args.by_content.now.frames.now c.args._words.now c.args.by_content.now.firsts.now c.args.out.now.items c.loop-k.out.items c.put_packets.new.out.items c.args.start c.loop-k.k _ _ c.requires.firsts c.requires.first c.loop-k-test.true c.if-by_content-k.false c.loop-k.invariant.1
      (packets_written c.loop-k.out.items c.put_packets.new.out.items (and_packet c.write_one.ensures (last_packet c.write_one-in-loop-k.ensures)) c.in_ok-put_packets.ensures.appends),
)

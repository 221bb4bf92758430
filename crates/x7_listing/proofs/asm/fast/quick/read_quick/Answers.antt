use Rattle.std.proofs.Common.{ap, arith, length, length-drop}
use Rattle.x7_listing.proofs.asm.fast.QuickLemmas.{left_from, takes_more, takes_seen}
use Rattle.x7_listing.proofs.asm.fast.quick.read_quick.Goals as goal

pub overflow_add-all : goal.overflow_add-all
overflow_add-all c =
    let text = c.args.text.now in
    let at = c.loop-all.all.size in
    let t = takes_seen _ _ _ _ 77 c.in-Some-read_some.taken.size c.in-Some-read_some.taken.count c.in-Some.ensures.cases.0 c.in-Some-read_some.ensures.takes in
    omega (arith, t.within, ap length (left_from at text c.loop-all.invariant.within), length-drop at text, c.loop-all.invariant.within)

pub overflow_add-all-in-loop-all : goal.overflow_add-all-in-loop-all
overflow_add-all-in-loop-all c =
    let text = c.args.text.now in
    let at = c.loop-all.all.size in
    let t = takes_seen _ _ _ _ 77 c.in-Some-read_some.taken.size c.in-Some-read_some.taken.count c.in-Some.ensures.cases.0 c.in-Some-read_some.ensures.takes in
    omega (arith, t.within, t.counted, ap length (left_from at text c.loop-all.invariant.within), length-drop at text, c.loop-all.invariant.within, c.loop-all.invariant.counted)

pub loop-all-preserved : goal.loop-all-preserved
loop-all-preserved c =
    let t = takes_seen _ _ _ _ 77 c.in-Some-read_some.taken.size c.in-Some-read_some.taken.count c.in-Some.ensures.cases.0 c.in-Some-read_some.ensures.takes in
    let p = takes_more c.args.text.now c.args.out.now.items c.reserve.new.self.items c.read_some.new.out.items c.loop-all.all.size c.in-Some-read_some.taken.size
    c.loop-all.all.count c.in-Some-read_some.taken.count c.loop-all.invariant.within (rw c.reserve.ensures.items c.loop-all.invariant.takes) t in
    record {
      within = p.0;
      counted = omega (arith, t.counted, c.loop-all.invariant.counted);
      takes = p.1;
      limit = λ h. omega (arith, c.read_some.ensures.room.within);
      room = λ h. omega (arith, c.in-Ok.ensures.ok, c.read_some.ensures.room.within, c.read_some.ensures.room.room);
    }

use Rattle.std.proofs.Common.{length, ◌<◌, arith}
use Rattle.x7_frames.proofs.TextLemmas.{row_put}
use Rattle.x7_frames.proofs.text.plan_text.Goals as goal

pub loop-i-preserved : goal.loop-i-preserved
loop-i-preserved c =
    row_put c.args.plan.now.rows c.loop-i.i record { far = c.in-Some.far; words = c.in-Some.words.now } c.loop-i.text.items c.put_frame_line.new.text.items
    (let h : c.loop-i.i < length c.args.plan.now.rows = omega (arith, c.loop-i-test.true, c.len-i-end.ensures.value) in h)
    (c.in-Some.ensures.found.1 record { far = c.in-Some.far; words = c.in-Some.words.now }) c.loop-i.invariant c.in_ok-put_frame_line.ensures

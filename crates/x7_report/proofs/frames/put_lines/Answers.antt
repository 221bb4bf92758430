use Rattle.std.proofs.Common.{◌*◌, ◌+◌, arith}
use Rattle.x7_report.specs.Frames.{frame_line_room, line_of_rank}
use Rattle.x7_report.proofs.ReportLemmas.{all_appended, item_more, none_appended}
use Rattle.x7_report.proofs.frames.put_lines.Goals as goal

pub loop-rank-init : goal.loop-rank-init
loop-rank-init c = none_appended c.args.text.now

pub loop-rank-preserved : goal.loop-rank-preserved
loop-rank-preserved c =
    let i = c.loop-rank.rank-index in
    item_more (line_of_rank c.args.part.now c.args.memory.now) c.args.ranks.now _ i (frame_line_room * i) (frame_line_room * (i + 1)) frame_line_room c.args.text.now c.loop-rank.text c.put_line.new.text c.loop-rank-test.true (omega arith) c.loop-rank.invariant c.put_line.ensures.appends

pub returns : goal.returns
returns c =
    let i = c.loop-rank.rank-index in
    record { appends = all_appended (line_of_rank c.args.part.now c.args.memory.now) c.args.ranks.now i (frame_line_room * i) _ c.args.text.now c.loop-rank.text (omega (arith, c.loop-rank-test.false)) (omega (arith, c.loop-rank-test.false)) c.loop-rank.invariant }

use Rattle.std.proofs.Common.{◌*◌, take}
use Rattle.x7_text.specs.Appends.{Appends}
use Rattle.x7_report.specs.Frames.{frame_line_room, lines_of_ranks}
use Rattle.x7_report.proofs.frames.put_lines.Given as goal

abbrev pub invariant-loop-rank : goal.invariant-loop-rank
invariant-loop-rank l = Appends l.fn.text l.text (lines_of_ranks l.part l.memory (take l.rank-index l.ranks)) (frame_line_room * l.rank-index)

use Rattle.std.proofs.Common.{◌≡◌, ◌++◌, take}
use Rattle.x7_planner.specs.Content.{planned_rows}
use Rattle.x7_planner.specs.PartialStream.{frames_words}
use Rattle.x7_planner.specs.Writer.{bytes_of_words}
use Rattle.x7_planner.proofs.burst.put_frames.Given as goal

abbrev pub invariant-loop-frame : goal.invariant-loop-frame
invariant-loop-frame l = l.out.items ≡ l.fn.out.items ++ bytes_of_words (frames_words (planned_rows (take l.frame-index l.frames)))

use Rattle.std.proofs.Common.{◌≡◌, take}
use Rattle.std.specs.List.{flat_map}
use Rattle.x7_frames.specs.FramesText.{frame_line}
use Rattle.x7_frames.proofs.text.plan_text.Given as goal

abbrev pub invariant-loop-i : goal.invariant-loop-i
invariant-loop-i l = l.text.items ≡ flat_map frame_line (take l.i l.plan.rows)

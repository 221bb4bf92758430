use Rattle.std.proofs.Common.{ℕ, List, ◌++◌, ◌-◌, ◌≤◌, take, length}
use Rattle.x7_packets.specs.Cutter.{calls_left}
use Rattle.x7_crc.specs.Checker.{HaveChecked}
use Rattle.x7_crc.proofs.checker.after_piece.Given as goal

abbrev pub invariant-loop-now : goal.invariant-loop-now
invariant-loop-now l = record {
  within : l.at ≤ length l.piece;
  checks : (bytes : List ℕ) → HaveChecked l.fn.cutter l.fn.state.check l.fn.state.held bytes → HaveChecked l.cutter l.now.check l.now.held (bytes ++ take l.at l.piece);
}

abbrev pub decreases-loop-now : goal.decreases-loop-now
decreases-loop-now l = calls_left l.cutter (length l.piece - l.at)

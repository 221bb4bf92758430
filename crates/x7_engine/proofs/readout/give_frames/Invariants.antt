use Rattle.std.proofs.Common.{◌≤◌, ◌-◌}
use Rattle.x7_packets.specs.History.{History}
use Rattle.x7_flow.specs.Standing.{FramesFit, FramesStandFor, HaveDue, words_due}
use Rattle.x7_engine.specs.Readout.{GotAllBut}
use Rattle.x7_engine.proofs.readout.give_frames.Given as goal

abbrev pub invariant-loop-i : goal.invariant-loop-i
invariant-loop-i l = record {
  within : l.i ≤ l.count;
  frames : FramesFit l.part l.frames;
  due : HaveDue l.part l.frames (l.count - l.i);
  given : (h : History) → FramesStandFor l.part l.initial.frames h l.count → GotAllBut (words_due l.part h (l.count - l.i)) (words_due l.part h l.count) l.initial.read l.read;
  stands : (h : History) → FramesStandFor l.part l.initial.frames h l.count → FramesStandFor l.part l.frames h (l.count - l.i);
}

use Rattle.std.proofs.Common.{◌≡◌, ◌-◌, ◌%◌, ◌≤◌, ◌++◌, ◌^◌, List, length, take}
use Rattle.x7_part.specs.Part.{PartData}
use Rattle.x7_jtag.specs.Clocks.{shift_clocks}
use Rattle.x7_jtag.specs.Play.{MayClock}
use Rattle.x7_jtag.specs.State.{PortClock}
use Rattle.x7_jtag.specs.Tap.{TakesBytes, TapStandsFor}
use Rattle.x7_jtag.proofs.play.shift_bytes.Given as goal

abbrev pub invariant-loop-at : goal.invariant-loop-at
invariant-loop-at l = record {
  stands : (part : PartData) (cs : List PortClock) → TapStandsFor part l.initial.tap l.initial.device cs → TapStandsFor part l.tap l.device (cs ++ take l.at (shift_clocks l.scan.tdi));
  takes : TakesBytes l.tap;
  whole : l.at % 8 ≡ 0;
  within : l.at ≤ length l.scan.tdi;
  ready : MayClock l.tap l.device (2 ^ 32 - l.at);
}

abbrev pub decreases-loop-at : goal.decreases-loop-at
decreases-loop-at l = length l.scan.tdi - l.at

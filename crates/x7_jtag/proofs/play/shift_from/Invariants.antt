use Rattle.std.proofs.Common.{◌≡◌, ◌-◌, ◌++◌, ◌^◌, List, length, take}
use Rattle.x7_part.specs.Part.{PartData}
use Rattle.x7_jtag.specs.Clocks.{shift_clocks}
use Rattle.x7_jtag.specs.Play.{MayClock, tdo_differs_at, least}
use Rattle.x7_jtag.specs.Port.{port_after}
use Rattle.x7_jtag.specs.State.{PortClock}
use Rattle.x7_jtag.specs.Tap.{TapStandsFor}
use Rattle.x7_jtag.proofs.PlayLemmas.{found_or}
use Rattle.x7_jtag.proofs.play.shift_from.Given as goal

abbrev pub invariant-loop-i : goal.invariant-loop-i
invariant-loop-i l = record {
  stands : (part : PartData) (cs : List PortClock) → TapStandsFor part l.initial.tap l.initial.device (cs ++ take l.first (shift_clocks l.scan.tdi)) → TapStandsFor part l.tap l.device (cs ++ take l.i (shift_clocks l.scan.tdi));
  found : (part : PartData) (cs : List PortClock) → TapStandsFor part l.initial.tap l.initial.device (cs ++ take l.first (shift_clocks l.scan.tdi))
      → least (tdo_differs_at part (port_after part cs) l.scan) l.first (length l.scan.tdi - l.first) ≡ found_or l.found (least (tdo_differs_at part (port_after part cs) l.scan) l.i (length l.scan.tdi - l.i));
  ready : MayClock l.tap l.device (2 ^ 32 - l.i);
}

use Rattle.std.proofs.Common.{◌≡◌, ◌+◌, ◌-◌, ℕ, List, length, None, if◌then◌else◌, Bool}
use Rattle.std.specs.Option.{is_some}
use Rattle.x7_packets.specs.Cutter.{calls_left}
use Rattle.x7_part.specs.Part.{PartData}
use Rattle.x7_engine.specs.declared.kept.Kept.{Kept}
use Rattle.x7_engine.specs.Feeding.{TakesFirst}
use Rattle.x7_engine.specs.UntilStarted.{NoneBegun}
use Rattle.x7_engine.specs.Standing.{CanBeGiven, DeviceStandsFor}
use Rattle.x7_engine.proofs.device.Device.feed_until_begun.Given as goal

abbrev pub invariant-runs : goal.invariant-runs
invariant-runs l = record {
  takes : TakesFirst l.initial.self l.self l.piece l.at;
  fits : CanBeGiven l.self (length l.piece - l.at);
  drops : (part : PartData) (kept : Kept) (wrapped : Bool) (bytes : List ℕ) → DeviceStandsFor part kept wrapped l.initial.self bytes → l.read.most ≡ None;
  first : (part : PartData) (kept : Kept) (wrapped : Bool) (bytes : List ℕ) → DeviceStandsFor part kept wrapped l.initial.self bytes → NoneBegun part kept bytes l.piece l.at;
}

abbrev pub decreases-runs : goal.decreases-runs
decreases-runs l = if is_some l.self.registers.values.stop then 0 else calls_left l.self.cutter (length l.piece - l.at) + 1

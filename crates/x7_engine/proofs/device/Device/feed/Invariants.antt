use Rattle.std.proofs.Common.{◌+◌, ◌-◌, length, if◌then◌else◌}
use Rattle.std.specs.Option.{is_some}
use Rattle.x7_packets.specs.Cutter.{calls_left}
use Rattle.x7_engine.specs.Feeding.{GivesWordsOfFirst, TakesFirst, with_buffer}
use Rattle.x7_engine.specs.Standing.{CanBeGiven}
use Rattle.x7_engine.proofs.device.Device.feed.Given as goal

abbrev pub invariant-runs : goal.invariant-runs
invariant-runs l = record {
  takes : TakesFirst l.initial.self l.self l.piece l.at;
  gives : GivesWordsOfFirst (with_buffer l.initial.self l.initial.read) (with_buffer l.self l.read) l.piece l.at;
  fits : CanBeGiven l.self (length l.piece - l.at);
}

abbrev pub decreases-runs : goal.decreases-runs
decreases-runs l = if is_some l.self.registers.values.stop then 0 else calls_left l.self.cutter (length l.piece - l.at) + 1

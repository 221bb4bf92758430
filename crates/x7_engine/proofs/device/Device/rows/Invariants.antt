use Rattle.std.proofs.Common.{◌≡◌, length, take}
use Rattle.x7_engine.specs.Past.{ForEachPast, value_owing_at}
use Rattle.x7_engine.specs.Shown.{shown_count, with_values}
use Rattle.x7_engine.specs.Standing.{frames_due}
use Rattle.x7_engine.proofs.device.Device.rows.Given as goal

abbrev pub invariant-loop-i : goal.invariant-loop-i
invariant-loop-i l = record {
  long : length l.rows ≡ shown_count;
  so_far : ForEachPast l.self (λ p. take l.i l.rows ≡ take l.i (with_values (value_owing_at p (frames_due l.self.registers.values.due))));
}

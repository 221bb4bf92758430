use Rattle.std.proofs.Common.{◌≡◌, ◌≤◌, ◌++◌, length, drop}
use Rattle.x7_part.specs.AddressOrder.{addresses_in}
use Rattle.x7_part.specs.Part.{frame_words}
use Rattle.x7_outcome.specs.Generate.{plan_of_seed, rows_after}
use Rattle.x7_device_forms.proofs.generate.plan_of_seed.Given as goal

abbrev pub invariant-loop-rank : goal.invariant-loop-rank
invariant-loop-rank l = record {
  within : l.rank ≤ length (addresses_in l.part);
  room : length l.frame.items ≡ frame_words l.part;
  width : l.draft.width ≡ frame_words l.part;
  rows : l.draft.rows ++ rows_after (frame_words l.part) l.number (drop l.rank (addresses_in l.part)) ≡ (plan_of_seed l.part l.seed).rows;
}

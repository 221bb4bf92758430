use Rattle.std.proofs.Common.{◌≡◌, ◌≤◌, ◌+◌, ◌%◌, ◌^◌, length, drop}
use Rattle.x7_part.specs.AddressOrder.{addresses_in}
use Rattle.x7_memory.specs.PartFrames.{frame_at}
use Rattle.x7_outcome.specs.Generate.{words_sum}
use Rattle.x7_device_forms.proofs.generate.memory_sum.Given as goal

abbrev pub invariant-loop-rank : goal.invariant-loop-rank
invariant-loop-rank l = record {
  within : l.rank ≤ length (addresses_in l.part);
  total : (l.total + words_sum (frame_at l.part l.memory) (drop l.rank (addresses_in l.part))) % 2 ^ 32 ≡ words_sum (frame_at l.part l.memory) (addresses_in l.part) % 2 ^ 32;
}

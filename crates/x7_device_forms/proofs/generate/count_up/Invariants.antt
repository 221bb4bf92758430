use Rattle.std.proofs.Common.{◌≡◌, ◌+◌, ◌%◌, ◌^◌, length, take}
use Rattle.x7_outcome.specs.Generate.{counted}
use Rattle.x7_device_forms.proofs.generate.count_up.Given as goal

abbrev pub invariant-loop-i : goal.invariant-loop-i
invariant-loop-i l = record {
  length : length l.frame.items ≡ length l.fn.frame.items;
  prefix : take l.i l.frame.items ≡ counted l.i l.first;
  word : l.word ≡ (l.first + l.i) % 2 ^ 32;
}

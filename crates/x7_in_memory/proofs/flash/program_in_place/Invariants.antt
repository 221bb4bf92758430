use Rattle.std.proofs.Common.{◌≡◌, ◌++◌, bit_and, take, drop}
use Rattle.x7_words.specs.Flash.{zip_with}
use Rattle.x7_in_memory.specs.Memory.{left_by}
use Rattle.x7_in_memory.proofs.flash.program_in_place.Given as goal

abbrev pub invariant-loop-i : goal.invariant-loop-i
invariant-loop-i l = l.bytes ≡ left_by l.torn (take l.i l.initial.bytes) (take l.i (zip_with bit_and l.initial.bytes l.given)) ++ drop l.i l.initial.bytes

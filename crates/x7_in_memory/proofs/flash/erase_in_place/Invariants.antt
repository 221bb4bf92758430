use Rattle.std.proofs.Common.{◌≡◌, ◌++◌, take, drop}
use Rattle.x7_words.specs.Flash.{erased_sector}
use Rattle.x7_in_memory.specs.Memory.{left_by}
use Rattle.x7_in_memory.proofs.flash.erase_in_place.Given as goal

abbrev pub invariant-loop-i : goal.invariant-loop-i
invariant-loop-i l = l.bytes ≡ left_by l.torn (take l.i l.initial.bytes) (take l.i erased_sector) ++ drop l.i l.initial.bytes

use Rattle.std.proofs.Common.{◌≡◌, ◌++◌, take, drop, bit_and}
use Rattle.x7_words.specs.Flash.{zip_with}
use Rattle.x7_files.proofs.flash.clear_bits.Given as goal

abbrev pub invariant-loop-i : goal.invariant-loop-i
invariant-loop-i l = l.bytes ≡ zip_with bit_and (take l.i l.initial.bytes) (take l.i l.given) ++ drop l.i l.initial.bytes

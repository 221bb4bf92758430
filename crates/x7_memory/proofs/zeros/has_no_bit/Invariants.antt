use Rattle.std.proofs.Common.{◌≡◌, ◌==◌, take}
use Rattle.x7_memory.specs.PartFrames.{are_zeros}
use Rattle.x7_memory.proofs.zeros.has_no_bit.Given as goal

abbrev pub invariant-loop-word : goal.invariant-loop-word
invariant-loop-word l = (l.any == 0) ≡ are_zeros (take l.word-index l.words)

use Rattle.std.proofs.Common.{◌≡◌, ◌*◌, take}
use Rattle.x7_packets.specs.Nops.{equal_bytes}
use Rattle.x7_packets.proofs.fast.nops.count_blocks.Given as goal

abbrev pub invariant-loop-i : goal.invariant-loop-i
invariant-loop-i l = take (32 * l.i) l.bytes ≡ equal_bytes l.word (8 * l.i)

use Rattle.std.proofs.Common.{◌≡◌, drop}
use Rattle.x7_part.specs.PartChecks.{are_printed}
use Rattle.x7_part.proofs.ranges.are_printed.Given as goal

abbrev pub invariant-loop-byte : goal.invariant-loop-byte
invariant-loop-byte l = are_printed (drop l.byte-index l.bytes) ≡ are_printed l.bytes

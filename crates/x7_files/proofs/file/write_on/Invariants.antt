use Rattle.std.proofs.Common.{◌≤◌, ◌-◌, length, take}
use Rattle.x7_files.specs.File.{WritesBytes}
use Rattle.x7_files.proofs.file.write_on.Given as goal

abbrev pub invariant-loop-at : goal.invariant-loop-at
invariant-loop-at g l = record {
  within : l.at ≤ length l.bytes;
  written : WritesBytes g.F.Write.contents (take l.at l.bytes) l.fn.file l.file;
}

abbrev pub decreases-loop-at : goal.decreases-loop-at
decreases-loop-at g l = length l.bytes - l.at

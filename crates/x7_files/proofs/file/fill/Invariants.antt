use Rattle.std.proofs.Common.{◌≡◌, ◌≤◌, ◌-◌, length, take}
use Rattle.x7_files.specs.File.{ReadsBytes}
use Rattle.x7_files.proofs.file.fill.Given as goal

abbrev pub invariant-loop-at : goal.invariant-loop-at
invariant-loop-at g l = record {
  within : l.at ≤ length l.buf;
  length : length l.buf ≡ length l.fn.buf;
  read : ReadsBytes g.F.Read.remaining (take l.at l.buf) l.fn.file l.file;
}

abbrev pub decreases-loop-at : goal.decreases-loop-at
decreases-loop-at g l = length l.buf - l.at

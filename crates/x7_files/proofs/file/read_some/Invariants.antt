use Rattle.std.proofs.Common.{◌≡◌, [], length}
use Rattle.x7_files.specs.File.{ReadsBytes}
use Rattle.x7_files.proofs.file.read_some.Given as goal

abbrev pub invariant-tries : goal.invariant-tries
invariant-tries g l = record {
  length : length l.buf ≡ length l.fn.buf;
  interrupted : ReadsBytes g.F.Read.remaining [] l.fn.file l.file;
}

abbrev pub decreases-tries : goal.decreases-tries
decreases-tries g l = l.left

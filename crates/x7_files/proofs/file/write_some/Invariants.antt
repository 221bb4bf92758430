use Rattle.std.proofs.Common.{[]}
use Rattle.x7_files.specs.File.{WritesBytes}
use Rattle.x7_files.proofs.file.write_some.Given as goal

abbrev pub invariant-tries : goal.invariant-tries
invariant-tries g l = WritesBytes g.F.Write.contents [] l.fn.file l.file

abbrev pub decreases-tries : goal.decreases-tries
decreases-tries g l = l.left

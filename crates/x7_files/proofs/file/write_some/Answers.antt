use Rattle.std.proofs.Common.{◌≡◌, ◌<◌, [], length, length-take-le, take, rules, arith}
use Rattle.std.proofs.lemmas.Bool.Decides.{nat_tests}
use Rattle.x7_files.proofs.FileLemmas.{writing_interrupted, writing_more, writing_one}
use Rattle.x7_files.proofs.file.write_some.Goals as goal

pub returns-in-Ok-clause-written : goal.returns-in-Ok-clause-written
returns-in-Ok-clause-written g c =
    let n = c.in-Ok.count in
    let bytes = c.args.bytes.now in
    let size : length (take n bytes) ≡ n = length-take-le n bytes c.in-Ok.ensures.within in
    let some : 0 < length (take n bytes) = grind (arith, nat_tests, size) in
    writing_more g.F.Write.contents [] (take n bytes) c.args.file.now c.tries.file (record { file = c.write_once.new.file; calls = c.write_once.new.calls }) c.tries.invariant
    (writing_one g.F.Write.contents (take n bytes) c.tries.file (record { file = c.write_once.new.file; calls = c.write_once.new.calls }) some c.in-Ok.ensures.bytes c.in-Ok.ensures.called)

pub tries-preserved : goal.tries-preserved
tries-preserved g c =
    writing_more g.F.Write.contents [] [] c.args.file.now c.tries.file (record { file = c.write_once.new.file; calls = c.write_once.new.calls }) c.tries.invariant
    (writing_interrupted g.F.Write.contents c.in-Err.kind c.tries.file (record { file = c.write_once.new.file; calls = c.write_once.new.calls }) (search rules) c.in-Err.ensures.bytes c.in-Err.ensures.called)

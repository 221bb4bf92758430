use Rattle.std.proofs.Common.{◌≡◌, ◌<◌, [], length, length-take-le, take, rules, arith}
use Rattle.std.proofs.lemmas.Bool.Decides.{nat_tests}
use Rattle.x7_files.proofs.FileLemmas.{reading_interrupted, reading_more, reading_one}
use Rattle.x7_files.proofs.file.read_some.Goals as goal

pub returns-in-Ok-clause-read : goal.returns-in-Ok-clause-read
returns-in-Ok-clause-read g c =
    let n = c.in-Ok.count in
    let buf = c.read_once.new.buf in
    let size : length (take n buf) ≡ n = length-take-le n buf (omega (arith, c.in-Ok.ensures.within, c.in-Ok.ensures.length)) in
    let some : 0 < length (take n buf) = grind (arith, nat_tests, size) in
    reading_more g.F.Read.remaining [] (take n buf) c.args.file.now c.tries.file (record { file = c.read_once.new.file; calls = c.read_once.new.calls }) c.tries.invariant.interrupted
    (reading_one g.F.Read.remaining (take n buf) c.tries.file (record { file = c.read_once.new.file; calls = c.read_once.new.calls }) some c.in-Ok.ensures.bytes.0 c.in-Ok.ensures.called)

pub tries-preserved : goal.tries-preserved
tries-preserved g c = record {
  length = omega (arith, c.in-Err.ensures.length, c.tries.invariant.length);
  interrupted =
      reading_more g.F.Read.remaining [] [] c.args.file.now c.tries.file (record { file = c.read_once.new.file; calls = c.read_once.new.calls }) c.tries.invariant.interrupted
      (reading_interrupted g.F.Read.remaining c.in-Err.kind c.tries.file (record { file = c.read_once.new.file; calls = c.read_once.new.calls }) (search rules) c.in-Err.ensures.bytes c.in-Err.ensures.called);
}

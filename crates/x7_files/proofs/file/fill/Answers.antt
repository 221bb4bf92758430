use Rattle.std.proofs.Common.{length-take-le, take, arith}
use Rattle.std.proofs.lemmas.Slice.{overwrites}
use Rattle.x7_files.proofs.FileLemmas.{reading_part, reading_stopped}
use Rattle.x7_files.proofs.file.fill.Goals as goal

pub returns-in-Err-clause-read : goal.returns-in-Err-clause-read
returns-in-Err-clause-read g c =
    let i = c.loop-at.invariant in (
      take c.loop-at.at c.loop-at.buf,
      grind (arith, overwrites, c.in-Err.ensures.length, c.loop-at-test.true, length-take-le c.loop-at.at c.loop-at.buf i.within),
      reading_stopped g.F.Read.remaining (take c.loop-at.at c.loop-at.buf) c.args.file.now c.loop-at.file c.read_some.new.file i.read c.in-Err.ensures.read,
    )

pub loop-at-preserved : goal.loop-at-preserved
loop-at-preserved g c =
    let i = c.loop-at.invariant in
    let read = c.in-Ok.ensures in
    record {
      within = grind (arith, overwrites, read.length, read.within);
      length = grind (arith, overwrites, read.length, i.length);
      read = reading_part g.F.Read.remaining c.loop-at.at c.in-Ok.count c.loop-at.buf c.read_some.new.buf c.args.file.now c.loop-at.file c.read_some.new.file i.within (omega (arith, read.length, read.within.1)) i.read read.read;
    }

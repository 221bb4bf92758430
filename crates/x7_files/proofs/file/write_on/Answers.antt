use Rattle.std.proofs.Common.{◌-◌, drop, length, sym, take, take_all, arith}
use Rattle.std.proofs.lemmas.List.{length-drop, take-append-drop}
use Rattle.std.proofs.lemmas.Grind.{common_steps}
use Rattle.x7_files.proofs.FileLemmas.{writing_part, writing_stopped}
use Rattle.x7_files.proofs.file.write_on.Goals as goal

pub returns-in-Err : goal.returns-in-Err
returns-in-Err g c =
    let at = c.loop-at.at in
    let bytes = c.args.bytes.now in
    record {
      taken = take at bytes;
      after = drop at bytes;
      are = sym (take-append-drop at bytes);
      short = omega (arith, length-drop at bytes, c.loop-at-test.true);
      written = writing_stopped g.F.Write.contents (take at bytes) c.args.file.now c.loop-at.file c.write_some.new.file c.loop-at.invariant.written c.in-Err.ensures.written;
    }

pub loop-at-preserved : goal.loop-at-preserved
loop-at-preserved g c =
    let at = c.loop-at.at in
    let bytes = c.args.bytes.now in
    record {
      within = grind (arith, common_steps, c.in-Ok.ensures.within);
      written = writing_part g.F.Write.contents at c.in-Ok.count bytes _ c.args.file.now c.loop-at.file c.write_some.new.file (take_all (length bytes - at) (drop at bytes) (omega (arith, length-drop at bytes)))
          c.loop-at.invariant.written c.in-Ok.ensures.written;
    }

use Rattle.std.proofs.Common.{inl, replicate, subst, sym}
use Rattle.x7_files.specs.File.{WriteStopsAt, WritesAt, file_tells}
use Rattle.x7_files.proofs.FileFlashLemmas.{erased_by}
use Rattle.x7_words.proofs.FlashLemmas.{folded_sector_size_is}
use Rattle.x7_files.proofs.flash.erase_from.Goals as goal

pub returns-in-Err : goal.returns-in-Err
returns-in-Err g c =
    inl (subst (λ n. WriteStopsAt (file_tells g.F.Seek.stream_position g.F.Write.contents) c.args.place (replicate n 255) c.args.file.now c.write_from.new.file) (sym folded_sector_size_is) c.in-Err.ensures)

pub returns : goal.returns
returns g c =
    let t = file_tells g.F.Seek.stream_position g.F.Write.contents in
    let written = subst (λ n. WritesAt t c.args.place (replicate n 255) c.args.file.now c.write_from.new.file) (sym folded_sector_size_is) c.in-Ok.ensures in
    erased_by t c.args.place c.args.file.now c.write_from.new.file c.keep.new.file c.keep.result written c.keep.ensures

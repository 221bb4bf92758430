use Rattle.std.proofs.Common.{◌≡◌, ℕ, inl, length, length-take-le, replicate, arith, subst, ◌∙◌}
use Rattle.std.proofs.lemmas.List.{length-replicate}
use Rattle.x7_files.specs.File.{ReadStopsAt, WritesFrom, file_tells}
use Rattle.x7_files.proofs.FileFlashLemmas.{cleared_by}
use Rattle.x7_files.proofs.flash.clear_piece.Goals as goal

pub returns-in-Err : goal.returns-in-Err
returns-in-Err g c =
    let size : length c.read_from.new.buf ≡ length c.args.given.now = c.in-Err.ensures.length ∙ length-take-le (length c.args.given.now) (replicate 4096 0) (omega (arith, c.requires, length-replicate {A = ℕ} 4096 0)) in
    inl (subst (λ n. ReadStopsAt (file_tells g.F.Seek.stream_position g.F.Read.remaining) c.args.place n c.args.file.now c.read_from.new.file) size c.in-Err.ensures.read)

pub returns : goal.returns
returns g c =
    let reads = file_tells g.F.Seek.stream_position g.F.Read.remaining in
    let writes = file_tells g.F.Seek.stream_position g.F.Write.contents in
    let size : length c.read_from.new.buf ≡ length c.args.given.now = c.in-Ok.ensures.length ∙ length-take-le (length c.args.given.now) (replicate 4096 0) (omega (arith, c.requires, length-replicate {A = ℕ} 4096 0)) in
    let written = subst (λ bytes. WritesFrom writes c.args.place bytes c.write_from.result c.read_from.new.file c.write_from.new.file) c.clear_bits.ensures c.write_from.ensures in
    cleared_by reads writes c.args.place c.args.given.now c.read_from.new.buf c.args.file.now c.read_from.new.file c.write_from.new.file c.write_from.result size c.in-Ok.ensures.read written

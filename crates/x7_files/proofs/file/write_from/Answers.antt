use Rattle.x7_files.specs.File.{file_tells}
use Rattle.x7_files.proofs.FileLemmas.{written_there}
use Rattle.x7_files.proofs.file.write_from.Goals as goal

pub returns : goal.returns
returns g c =
    written_there (file_tells g.F.Seek.stream_position g.F.Write.contents) c.args.place c.args.bytes.now c.args.file.now c.go_to.new.file c.write_on.new.file c.write_on.result c.in_ok-go_to.ensures c.write_on.ensures

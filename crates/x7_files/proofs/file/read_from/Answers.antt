use Rattle.x7_files.specs.File.{file_tells}
use Rattle.x7_files.proofs.FileLemmas.{read_there}
use Rattle.x7_files.proofs.file.read_from.Goals as goal

pub returns-clause-read : goal.returns-clause-read
returns-clause-read g c =
    read_there (file_tells g.F.Seek.stream_position g.F.Read.remaining) c.args.place c.fill.new.buf c.args.file.now c.go_to.new.file c.fill.new.file c.fill.result c.in_ok-go_to.ensures c.fill.ensures.read

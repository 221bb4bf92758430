use Rattle.x7_frames.proofs.DigitLemmas.{read_whole}
use Rattle.x7_frames.proofs.line.read_digits.Goals as goal

pub returns-clause-value : goal.returns-clause-value
returns-clause-value c =
    read_whole c.args.digits.now c.read_blocks-read.new.bytes c.read_pairs.new.bytes c.read_blocks-read.result c.read_pairs.result c.read_blocks-read.ensures.value c.read_pairs.ensures.value

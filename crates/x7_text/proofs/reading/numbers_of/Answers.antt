use Rattle.x7_text.proofs.DigitLemmas.{numbers_are}
use Rattle.x7_text.proofs.reading.numbers_of.Goals as goal

pub returns : goal.returns
returns c = numbers_are c.args.digits 64 c.requires.lanes c.requires.bytes

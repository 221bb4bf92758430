use Rattle.x7_text.proofs.DigitLemmas.{paired}
use Rattle.x7_text.proofs.reading.bytes_of_halves.Goals as goal

pub returns : goal.returns
returns c = paired c.args.halves c.requires

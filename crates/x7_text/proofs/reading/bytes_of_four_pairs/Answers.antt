use Rattle.x7_text.proofs.DigitLemmas.{eight_paired}
use Rattle.x7_text.proofs.reading.bytes_of_four_pairs.Goals as goal

pub returns : goal.returns
returns c = eight_paired c.args.halves c.requires

use Rattle.x7_report.proofs.DigitLemmas.{eight_bytes}
use Rattle.x7_report.proofs.frames.big_endian_bytes.Goals as goal

pub returns : goal.returns
returns c = eight_bytes c.args.words c.requires c.fits-words.1

use Rattle.std.proofs.Common.{refl}
use Rattle.x7_mcs.proofs.GoesLemmas.{nothing_read}
use Rattle.x7_mcs.proofs.mcs_lines.McsLines.new.Goals as goal

pub returns : goal.returns
returns c = nothing_read _ refl refl c.empty_image.ensures.bytes c.empty_image.ensures.marks

use Rattle.std.proofs.Common.{refl}
use Rattle.x7_listing.proofs.asm.lines.AsmLines.new.Goals as goal

pub returns : goal.returns
returns c = record { read = λ left. record { texts = refl; out_is = c.new.ensures.items; start_is = refl; keeps = c.new-2.ensures }; room = λ e. cc }

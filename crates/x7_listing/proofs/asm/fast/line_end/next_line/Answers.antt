use Rattle.std.proofs.Common.{arith}
use Rattle.x7_listing.proofs.asm.fast.LineEndLemmas.{near_end}
use Rattle.x7_listing.proofs.asm.fast.line_end.next_line.Goals as goal

pub returns : goal.returns
returns c = near_end c.args.text.now c.line_ends.result (omega arith) c.line_ends.ensures (omega arith)

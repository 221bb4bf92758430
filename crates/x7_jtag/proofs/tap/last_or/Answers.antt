use Rattle.std.proofs.Common.{arith, ◌∙◌}
use Rattle.x7_jtag.proofs.ShiftLemmas.{last_is}
use Rattle.x7_jtag.proofs.tap.last_or.Goals as goal

pub returns : goal.returns
returns c = c.from.ensures ∙ last_is c.args.before c.args.bytes.now (grind (arith, c.is_empty.ensures, c.if-is_empty.false))

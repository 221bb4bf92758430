use Rattle.std.proofs.Common.{length, ap, ◌∙◌}
use Rattle.x7_svf.proofs.BitLemmas.{count_of}
use Rattle.x7_svf.proofs.bits.Bits.len.Goals as goal

pub returns : goal.returns
returns c = count_of c.self.inside.digits.now c.self.inside.count 0 ∙ ap length c.self.view_is

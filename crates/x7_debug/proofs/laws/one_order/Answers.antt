use Rattle.x7_debug.proofs.UniqueLemmas.{one_order}
use Rattle.x7_debug.proofs.laws.one_order.Goals as goal

pub returns : goal.returns
returns c = one_order

use Rattle.x7_flow.proofs.StretchLemmas.{by_stretches}
use Rattle.x7_flow.proofs.laws.stretches_override_in_order.Goals as goal

pub returns : goal.returns
returns c = record { memory = by_stretches }

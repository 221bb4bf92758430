use Rattle.x7_part.specs.AddressOrder.{addresses_in}
use Rattle.x7_memory.proofs.FrameLemmas.{among_none}
use Rattle.x7_memory.proofs.MapLemmas.{zeros_at, same_memory}
use Rattle.x7_memory.proofs.laws.memories_are_maps.Goals as goal

pub returns-clause-outside : goal.returns-clause-outside
returns-clause-outside c = λ part frames far out. among_none far (addresses_in part) frames out

pub returns-clause-zeros : goal.returns-clause-zeros
returns-clause-zeros c = zeros_at

pub returns-clause-equal : goal.returns-clause-equal
returns-clause-equal c = same_memory

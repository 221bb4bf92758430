use Rattle.std.proofs.Common.{refl}
use Rattle.x7_memory.proofs.PlanLemmas.{planned_at, planned_permuted}
use Rattle.x7_memory.proofs.MapLemmas.{named_some, unnamed_none, planned_joined, planned_apart, total_unplanned, total_planned, override_whole}
use Rattle.x7_memory.proofs.laws.plans_are_maps.Goals as goal

pub returns-clause-rows : goal.returns-clause-rows
returns-clause-rows c = λ plan k d is inside. planned_at plan.rows k _ d is.order inside refl

pub returns-clause-named : goal.returns-clause-named
returns-clause-named c = λ rows far. (λ none has. named_some rows far has none, unnamed_none rows far)

pub returns-clause-joined : goal.returns-clause-joined
returns-clause-joined c = planned_joined

pub returns-clause-apart : goal.returns-clause-apart
returns-clause-apart c = planned_apart

pub returns-clause-permuted : goal.returns-clause-permuted
returns-clause-permuted c = λ rows others same apart far. planned_permuted rows others far same apart

pub returns-clause-unplanned : goal.returns-clause-unplanned
returns-clause-unplanned c = total_unplanned

pub returns-clause-planned : goal.returns-clause-planned
returns-clause-planned c = total_planned

pub returns-clause-whole : goal.returns-clause-whole
returns-clause-whole c = override_whole

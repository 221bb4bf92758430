-- A plan whose full stream isn't refused.
use Rattle.std.proofs.Common.{List, [], ◌∷◌, ◌++◌, subst}
use Rattle.std.specs.Prelude.{All, Contains}
use Rattle.x7_part.specs.AddressOrder.{addresses_in}
use Rattle.x7_part.specs.Part.{PartData}
use Rattle.x7_memory.specs.Plan.{AreAddressed, PlanData, PlanRow}
use Rattle.std.proofs.lemmas.List.Elements.{All-head, All-tail}
use Rattle.x7_planner.specs.Fault.{IsFullFault}
use Rattle.x7_planner.specs.declared.fault.PlanFault.{PlanFault}
use Rattle.x7_planner.specs.declared.fault.PlanFault.TheVariants as fault

each_among : (P : PlanRow → Type 0) (before after : List PlanRow) (row : PlanRow) → All P (before ++ row ∷ after) → P row
each_among P [] after row all = All-head P row after all
each_among P (x ∷ before) after row all = each_among P before after row (All-tail P x (before ++ row ∷ after) all)

-- a full stream of a plan at the part's addresses isn't refused
pub no_fault : (part : PartData) (plan : PlanData) (fault : PlanFault) → AreAddressed part plan.rows → IsFullFault part plan fault → ⊥
no_fault part plan (fault.Foreign address) all h =
    h.foreign (each_among (λ (row : PlanRow). Contains (addresses_in part) row.far) h.before h.after h.row (subst (λ (rows : List PlanRow). AreAddressed part rows) h.split all))
no_fault part plan fault.Empty all h = h
no_fault part plan (fault.Range n) all h = h
no_fault part plan fault.NoMemory all h = h

use Rattle.std.proofs.Common.{◌∙◌, ap, sym, subst, get_or, Some}
use Rattle.x7_memory.specs.Plan.{AreInOrder}
use Rattle.x7_memory.proofs.PlanLemmas.{no_row, planned_at, gap_unlisted, gap_none}
use Rattle.x7_memory.proofs.plan.Plan.get.Goals as goal

pub returns-in-Ok-clause-found : goal.returns-in-Ok-clause-found
returns-in-Ok-clause-found c =
    let order = subst (λ plan. AreInOrder plan.rows) c.self.view_is c.self.invariant.order in
    let place = c.in-Ok.ensures.found in
    planned_at c.args.self.now.rows c.in-Ok.place c.args.far no_row order place.inside (place.same no_row)
    ∙ ap (λ plan. Some (get_or plan.rows c.in-Ok.place no_row).words) (sym c.self.view_is)
    ∙ ap Some (sym (c.words.ensures.value no_row))

pub returns-in-Err-clause-absent : goal.returns-in-Err-clause-absent
returns-in-Err-clause-absent c = gap_unlisted c.args.self.now.rows c.args.far c.in-Err.field-0 c.in-Err.ensures.insert_place

pub returns-in-Err-clause-no_frame : goal.returns-in-Err-clause-no_frame
returns-in-Err-clause-no_frame c = gap_none c.args.self.now.rows c.args.far c.in-Err.field-0 c.in-Err.ensures.insert_place

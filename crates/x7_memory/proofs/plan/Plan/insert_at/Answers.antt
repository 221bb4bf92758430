use Rattle.std.proofs.Common.{◌∙◌, ap, sym, subst, arith}
use Rattle.x7_words.specs.Word.{AreWords}
use Rattle.x7_memory.specs.Places.{IsInsertPlace}
use Rattle.x7_memory.proofs.PlanLemmas.{plan_insert, words_by_place}
use Rattle.x7_memory.proofs.plan.Plan.insert_at.Goals as goal

pub invariant_of-self-2 : goal.invariant_of-self-2
invariant_of-self-2 c =
    let gap = subst (λ plan. IsInsertPlace plan.rows c.args.far c.args.place) (sym c.self.view_is) c.requires.insert_place in
    let width = c.requires.width ∙ ap (λ plan. plan.width) (sym c.self.view_is) in
    let fits : AreWords c.args.words.now = words_by_place c.args.words.now (λ i h. (c.type_inv.words i).fits) in
    let far = c.ranges.far.fits in
    rw (c.insert.ensures.width, c.in_ok-insert.ensures.added)
    (plan_insert c.self.inside.rows.width c.self.inside.rows.rows record { far = c.args.far; words = c.args.words.now } c.args.place c.self.invariant gap width record { far = omega arith; words = fits })

use Rattle.std.proofs.Common.{sym, subst}
use Rattle.x7_memory.specs.Plan.{AreApart}
use Rattle.x7_memory.proofs.DraftLemmas.{sorted_plan}
use Rattle.x7_memory.proofs.draft.Draft.finish.Goals as goal

pub of_rows-requires : goal.of_rows-requires
of_rows-requires c =
    let apart = subst (λ plan. AreApart plan.rows) (sym c.self.view_is) c.requires.apart in
    rw c.sort.ensures.width (sorted_plan c.self.inside.rows.width c.self.inside.rows.rows c.sort.new.self.rows c.self.invariant apart c.sort.ensures.same_rows c.sort.ensures.sorted)

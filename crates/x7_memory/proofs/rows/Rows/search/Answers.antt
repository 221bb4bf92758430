use Rattle.std.proofs.Common.{rules, sym, subst}
use Rattle.std.proofs.lemmas.List.Sorted.{answers_always}
use Rattle.x7_memory.specs.Plan.{AreInOrder}
use Rattle.x7_memory.specs.Rows.{rows_in}
use Rattle.x7_memory.proofs.RowLemmas.{searched}
use Rattle.x7_memory.proofs.rows.Rows.search.Goals as goal

pub returns-clause-found : goal.returns-clause-found
returns-clause-found c =
    let facts = c.binary_search_by_key.ensures in
    let by_key = facts.position (λ row. row.far) (answers_always _ _ _ (λ f a r g called. search rules)) in
    let order : AreInOrder (rows_in c.self.inside.width c.self.inside.words.items c.self.inside.rows.items) = subst (λ plan. AreInOrder plan.rows) (sym c.self.view_is) c.requires in
    rw (← c.self.view_is, ← c.deref.ensures.value) (searched c.self.inside.width c.self.inside.words.items _ (rw c.deref.ensures.value order) c.args.far _ facts.bound by_key).0

pub returns-clause-insert_place : goal.returns-clause-insert_place
returns-clause-insert_place c =
    let facts = c.binary_search_by_key.ensures in
    let by_key = facts.position (λ row. row.far) (answers_always _ _ _ (λ f a r g called. search rules)) in
    let order : AreInOrder (rows_in c.self.inside.width c.self.inside.words.items c.self.inside.rows.items) = subst (λ plan. AreInOrder plan.rows) (sym c.self.view_is) c.requires in
    rw (← c.self.view_is, ← c.deref.ensures.value) (searched c.self.inside.width c.self.inside.words.items _ (rw c.deref.ensures.value order) c.args.far _ facts.bound by_key).1

use Rattle.std.proofs.Common.{List, ℕ, sym, subst}
use Rattle.x7_listing.specs.Pens.{lister_with}
use Rattle.x7_listing.specs.Lister.{ListerState, TakerStandsFor}
use Rattle.x7_listing.proofs.list.lister.Lister.take.Goals as goal

pub returns-clause-takes : goal.returns-clause-takes
returns-clause-takes c = λ given before bytes due next s x.
    let i = c.self.inside in
    let P : List ℕ → Type 0 = λ t. TakerStandsFor (lister_with i.cutter i.pen t) given before bytes due in
    let t : P i.text.items = subst (λ (l : ListerState). TakerStandsFor l given before bytes due) (sym c.self.view_is) s in
    c.put_next-self-inside.ensures.takes i.cutter given before bytes due next (subst P (sym c.reserve.ensures.items) t) x

use Rattle.std.proofs.Common.{List, ℕ, sym, subst}
use Rattle.x7_listing.specs.Pens.{lister_with}
use Rattle.x7_listing.specs.Lister.{ListerState, ListerStandsFor, HasListedJust}
use Rattle.x7_listing.proofs.list.lister.Lister.feed.Goals as goal

pub returns-clause-stands : goal.returns-clause-stands
returns-clause-stands c = λ given before bytes s.
    let i = c.self.inside in
    let r : ListerStandsFor (lister_with i.cutter i.pen i.text.items) given before bytes = subst (λ (l : ListerState). ListerStandsFor l given before bytes) (sym c.self.view_is) s in
    let P : List ℕ → Type 0 = λ x. HasListedJust (lister_with i.cutter i.pen x) given before bytes in
    c.take_piece-self-inside.ensures.rests given before bytes (subst P (sym c.reserve.ensures.items) r.has_listed)

use Rattle.std.proofs.Common.{◌≡◌, ◌++◌, List, ℕ, refl, sym, subst}
use Rattle.x7_listing.specs.Listing.{reading_text}
use Rattle.x7_listing.specs.Pens.{lister_with}
use Rattle.x7_listing.specs.Lister.{ListerState, ListerStandsFor, HasListedJust}
use Rattle.x7_listing.proofs.list.ListerLemmas.{begins, not_sync_found}
use Rattle.x7_listing.proofs.list.ListerOfRunsLemmas.{starts}
use Rattle.x7_listing.proofs.list.lister.Lister.finish.Goals as goal

pub returns-clause-finished : goal.returns-clause-finished
returns-clause-finished c = λ given before bytes s.
    let i = c.self.inside in
    let r : ListerStandsFor (lister_with i.cutter i.pen i.text.items) given before bytes = subst (λ (l : ListerState). ListerStandsFor l given before bytes) (sym c.self.view_is) s in
    let P : List ℕ → Type 0 = λ x. HasListedJust (lister_with i.cutter i.pen x) given before bytes in
    let t : P c.reserve.new.self.items = subst P (sym c.reserve.ensures.items) r.has_listed in
    let listing : List ℕ = reading_text t.sessions t.at in
    let listed : given ++ c.put_end.new.text.items ≡ before ++ listing = c.put_end.ensures.listed given before t.sessions t.at (record { bytes = bytes; reading = t.cut.reading; mode = _; listed = t.listed; not_sync_found = r.ready }) (c.kept.ensures.tail bytes t.sessions t.at t.cut) in
    record {
      listing = listing;
      listing_is = record { sessions = t.sessions; place = t.at; reading = t.cut.reading; text_is = refl };
      listed = listed;
      stands = begins _ _ _ _ _ given (before ++ listing) c.new-self-inside.ensures refl c.new_pen.ensures.in_line c.new_pen.ensures.held listed (not_sync_found _ c.new-self-inside.ensures);
      takes = starts _ given (before ++ listing) c.new-self-inside.ensures refl c.new_pen.ensures.in_line c.new_pen.ensures.held listed;
    }

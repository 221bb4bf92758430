use Rattle.std.proofs.Common.{◌≡◌, ℕ, List, ◌∷◌, ◌++◌, ◌+◌, [], ◌∙◌, length-append, arith, ap, sym, subst, refl}
use Rattle.x7_text.specs.Lines.{split}
use Rattle.x7_text.specs.LineReader.{ReaderState, StandsFor}
use Rattle.x7_text.proofs.LineReaderLemmas.{few_lines, held_on, line_ends, line_fails}
use Rattle.x7_text.proofs.PieceLemmas.{at_none, at_some, only_line}
use Rattle.std.proofs.lemmas.Result.{err_from_is_err_and}
use Rattle.x7_text.proofs.line_reader.LineReader.complete.Goals as goal

pub returns-in_default-more : goal.returns-in_default-more
returns-in_default-more g c = λ first text fits now.
    let taken = g.T.TakesLines.took first in
    let piece = c.args.piece.now in
    let line = c.first_line.result.0.now in
    let r : ReaderState g.row.T.Denot = record { taker = c.self.inside.taker; held = c.self.inside.held.items; count = c.self.inside.count } in
    let s : StandsFor taken r text = subst (λ x. StandsFor taken x text) (sym c.self.view_is) now in
    let p = only_line piece line (at_none piece line c.first_line.result.1 c.in_default-more.is c.first_line.ensures) in
    held_on taken r _ text piece refl refl (◌∙◌ {A = List ℕ} {b = c.self.inside.held.items ++ c.first_line.result.0.now} c.in-Ok.ensures.items (ap (λ t. r.held ++ t) (sym p.0))) p.1 s

pub returns-in_err-take_line : goal.returns-in_err-take_line
returns-in_err-take_line g c =
    let p = err_from_is_err_and c.from_residual.result c.from_residual.ensures.1 in
    rw (p.1, p.2) (λ first text fits now.
    let taken = g.T.TakesLines.took first in
    let fails = g.T.TakesLines.fails first c.in_err-take_line.field-0.0 in
    let piece = c.args.piece.now in
    let line = c.first_line.result.0.now in
    let rest = c.in-Some.rest.now in
    let r : ReaderState g.row.T.Denot = record { taker = c.self.inside.taker; held = c.self.inside.held.items; count = c.self.inside.count } in
    let s : StandsFor taken r text = subst (λ x. StandsFor taken x text) (sym c.self.view_is) now in
    let e : split piece ≡ line ∷ split rest = (at_some piece line c.first_line.result.1 c.in-Some.rest c.in-Some.is c.first_line.ensures).0 in
    let is : c.deref.result.now ≡ r.held ++ line = ◌∙◌ {A = List ℕ} {c = c.self.inside.held.items ++ c.first_line.result.0.now} c.deref.ensures.value c.in-Ok.ensures.items in
    line_fails taken fails r text piece line rest s e
    (λ more. subst (λ t. fails (s.lines ++ t ∷ split more)) is
    (c.in_err-take_line.ensures.read first s.lines
    (record { number = omega (arith, c.saturating_add-self-inside.ensures, few_lines taken r text s, s.count, fits, length-append text piece); took = s.took }) more)))

pub returns : goal.returns
returns g c = λ first text fits now.
    let taken = g.T.TakesLines.took first in
    let piece = c.args.piece.now in
    let line = c.first_line.result.0.now in
    let rest = c.in-Some.rest.now in
    let r : ReaderState g.row.T.Denot = record { taker = c.self.inside.taker; held = c.self.inside.held.items; count = c.self.inside.count } in
    let s : StandsFor taken r text = subst (λ x. StandsFor taken x text) (sym c.self.view_is) now in
    let e : split piece ≡ line ∷ split rest = (at_some piece line c.first_line.result.1 c.in-Some.rest c.in-Some.is c.first_line.ensures).0 in
    let is : c.deref.result.now ≡ r.held ++ line = ◌∙◌ {A = List ℕ} {c = c.self.inside.held.items ++ c.first_line.result.0.now} c.deref.ensures.value c.in-Ok.ensures.items in
    let n : c.saturating_add-self-inside.result ≡ r.count + 1 = omega (arith, c.saturating_add-self-inside.ensures, few_lines taken r text s, fits, length-append text piece) in
    line_ends taken r _ text piece line rest s e c.clear.ensures.items n
    (subst (λ t. taken c.take_line.new.self (s.lines ++ t ∷ [])) is (c.in_ok-take_line.ensures.read first s.lines (record { number = omega (arith, n, s.count); took = s.took })))

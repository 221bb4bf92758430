use Rattle.std.proofs.Common.{◌≡◌, ◌^◌, ◌<◌, [], ◌++◌, ◌∙◌, MatchOption, MatchResult, append_assoc, length, arith, ap, sym, subst}
use Rattle.x7_text.specs.LineReader.{FailsFrom, StandsFor, TakesPrefix}
use Rattle.std.proofs.lemmas.Result.{err_from_is_err_and}
use Rattle.std.proofs.lemmas.List.{nil_from_length}
use Rattle.x7_text.proofs.line_reader.LineReader.take.Goals as goal

pub returns-then-is_empty-clause-read : goal.returns-then-is_empty-clause-read
returns-then-is_empty-clause-read g c = λ first text fits s.
    let left : length c.self.inside.held.items ≡ 0 = grind (arith, c.is_empty.ensures, c.if-is_empty.true) in
    c.take_at_line_start.ensures.read first (sym (ap (λ x. x.held) c.self.view_is) ∙ nil_from_length c.self.inside.held.items left) text fits s

pub returns-in_err-rest-clause-memory : goal.returns-in_err-rest-clause-memory
returns-in_err-rest-clause-memory g c =
    let p = err_from_is_err_and c.from_residual.result c.from_residual.ensures.1 in
    rw (p.1, p.2) (λ first text fits clear.
    let none : c.self.inside.held.items ≡ [] = ap (λ x. x.held) c.self.view_is ∙ clear in
    absurd (grind (arith, ap length none, c.is_empty.ensures, c.if-is_empty.false)))

pub returns-in-Some-clause-read : goal.returns-in-Some-clause-read
returns-in-Some-clause-read g c = λ first text fits s.
    let taken = g.T.TakesLines.took first in
    let piece = c.args.piece.now in
    let rest = c.in-Some.rest.now in
    let f : TakesPrefix taken c.complete.new.self text piece rest =
    subst (λ found. MatchOption found (StandsFor taken c.complete.new.self (text ++ piece)) (λ left. TakesPrefix taken c.complete.new.self text piece left.now)) c.in-Some.is (c.in_ok-rest.ensures first text fits s) in
    let whole : (text ++ f.prefix) ++ rest ≡ text ++ piece = append_assoc text f.prefix rest ∙ ap (λ t. text ++ t) (sym f.parts) in
    subst (λ t. MatchResult c.take_at_line_start-in-Some.result (λ _. StandsFor taken c.take_at_line_start-in-Some.new.self t) (λ fault. FailsFrom (g.T.TakesLines.fails first fault) t)) whole
    (c.take_at_line_start-in-Some.ensures.read first f.clear (text ++ f.prefix) (subst (λ t. length t < 2 ^ 63) (sym whole) fits) f.stands)

pub returns-in-Some-clause-memory : goal.returns-in-Some-clause-memory
returns-in-Some-clause-memory g c = λ first text fits clear.
    let none : c.self.inside.held.items ≡ [] = ap (λ x. x.held) c.self.view_is ∙ clear in
    absurd (grind (arith, ap length none, c.is_empty.ensures, c.if-is_empty.false))

use Rattle.std.proofs.Common.{◌≡◌, ◌++◌, ◌∙◌, inl, inr, length, length-append, arith, ap, sym, subst}
use Rattle.x7_text.specs.LineReader.{ReaderState, StandsFor, TakesWhole}
use Rattle.x7_text.proofs.LineReaderLemmas.{few_lines, lines_fail, lines_taken, view_count, view_took}
use Rattle.std.proofs.lemmas.Result.{err_from_is_err_and}
use Rattle.std.proofs.lemmas.List.{nil_from_length}
use Rattle.x7_text.proofs.line_reader.LineReader.take_at_line_start.Goals as goal

pub returns-in_err-rest-clause-read : goal.returns-in_err-rest-clause-read
returns-in_err-rest-clause-read g c =
    let p = err_from_is_err_and c.from_residual.result c.from_residual.ensures.1 in
    rw (p.1, p.2) (λ first clear text fits now.
    let taken = g.T.TakesLines.took first in
    let piece = c.args.piece.now in
    let r : ReaderState g.row.T.Denot = record { taker = c.self.inside.taker; held = c.self.inside.held.items; count = c.self.inside.count } in
    let s : StandsFor taken r text = subst (λ x. StandsFor taken x text) (sym c.self.view_is) now in
    lines_fail taken (g.T.TakesLines.fails first c.in_err-rest.field-0.0) r text piece s (ap (λ x. x.held) c.self.view_is ∙ clear)
    (c.in_err-rest.ensures.read first s.lines (record { count = s.count; few = omega (arith, few_lines taken r text s, fits, length-append text piece); took = s.took })))

pub returns-in_err-rest-clause-memory : goal.returns-in_err-rest-clause-memory
returns-in_err-rest-clause-memory g c =
    let p = err_from_is_err_and c.from_residual.result c.from_residual.ensures.1 in
    rw (p.1, p.2) (λ first text fits clear s want.
    let taken = g.T.TakesLines.took first in
    let r : ReaderState g.row.T.Denot = record { taker = c.self.inside.taker; held = c.self.inside.held.items; count = c.self.inside.count } in
    let count : r.count ≡ length s.lines = view_count taken r c.args.self.now (length s.lines) c.self.view_is s.count in
    inl (c.in_err-rest.ensures.memory first s.lines (record {
      count = count;
      few = omega (arith, count, few_lines taken c.args.self.now text s, s.count, fits, length-append text c.args.piece.now);
      took = view_took taken r c.args.self.now s.lines c.self.view_is s.took;
    }) want))

pub returns-then-is_empty-clause-read : goal.returns-then-is_empty-clause-read
returns-then-is_empty-clause-read g c = λ first clear text fits now.
    let taken = g.T.TakesLines.took first in
    let piece = c.args.piece.now in
    let rest = c.in_ok-rest.rest.now in
    let r : ReaderState g.row.T.Denot = record { taker = c.self.inside.taker; held = c.self.inside.held.items; count = c.self.inside.count } in
    let s : StandsFor taken r text = subst (λ x. StandsFor taken x text) (sym c.self.view_is) now in
    let none = ap (λ x. x.held) c.self.view_is ∙ clear in
    let left : length rest ≡ 0 = grind (arith, c.is_empty.ensures, c.if-is_empty.true) in
    lines_taken taken r _ text piece rest s none (none ∙ sym (nil_from_length rest left))
    (c.in_ok-rest.ensures.read first s.lines (record { count = s.count; few = omega (arith, few_lines taken r text s, fits, length-append text piece); took = s.took }))

pub returns-in_default-clause-memory : goal.returns-in_default-clause-memory
returns-in_default-clause-memory g c = λ first text fits clear s want.
    let taken = g.T.TakesLines.took first in
    let piece = c.args.piece.now in
    let rest = c.in_ok-rest.rest.now in
    let r : ReaderState g.row.T.Denot = record { taker = c.self.inside.taker; held = c.self.inside.held.items; count = c.self.inside.count } in
    let count : r.count ≡ length s.lines = view_count taken r c.args.self.now (length s.lines) c.self.view_is s.count in
    let w : TakesWhole taken s.lines piece c.take_lines.new.self rest c.in_ok-rest.count =
    c.in_ok-rest.ensures.read first s.lines (record {
      count = count;
      few = omega (arith, count, few_lines taken c.args.self.now text s, s.count, fits, length-append text piece);
      took = view_took taken r c.args.self.now s.lines c.self.view_is s.took;
    }) in
    inr (record { taker = c.take_lines.new.self; more = w.more; rest = rest; cut = w.cut; took = w.took; begun = λ e. absurd (grind (arith, ap length e, c.is_empty.ensures, c.if-is_empty.false)) })

pub returns-clause-read : goal.returns-clause-read
returns-clause-read g c = λ first clear text fits now.
    let taken = g.T.TakesLines.took first in
    let piece = c.args.piece.now in
    let r : ReaderState g.row.T.Denot = record { taker = c.self.inside.taker; held = c.self.inside.held.items; count = c.self.inside.count } in
    let s : StandsFor taken r text = subst (λ x. StandsFor taken x text) (sym c.self.view_is) now in
    let none = ap (λ x. x.held) c.self.view_is ∙ clear in
    lines_taken taken r _ text piece c.in_ok-rest.rest.now s none (c.in-Ok.ensures.items ∙ ap (λ h. h ++ c.in_ok-rest.rest.now) none)
    (c.in_ok-rest.ensures.read first s.lines (record { count = s.count; few = omega (arith, few_lines taken r text s, fits, length-append text piece); took = s.took }))

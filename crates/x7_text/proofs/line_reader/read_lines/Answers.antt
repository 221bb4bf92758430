use Rattle.std.proofs.Common.{[], MatchResult, append-nil, arith, refl, subst, sym}
use Rattle.x7_text.specs.LineReader.{TakesWhole}
use Rattle.x7_text.specs.Lines.{split}
use Rattle.x7_text.proofs.LineReaderLemmas.{cut_long, wants_last}
use Rattle.std.proofs.lemmas.Result.{err_from_is_err_and}
use Rattle.x7_text.proofs.line_reader.read_lines.Goals as goal

pub returns-clause-read : goal.returns-clause-read
returns-clause-read g c = λ begun.
    let first = c.args.taker in
    let text = c.args.text.now in
    let rest = c.in_ok-line.line.now in
    let w : TakesWhole (g.T.TakesLines.took first) [] text c.take_lines.new.self rest c.in_ok-line.count = c.in_ok-line.ensures.read first [] (record { count = refl; few = omega arith; took = begun }) in
    subst (λ ls. MatchResult c.take_last.result (λ out. g.T.TakesLines.gives first out ls) (λ fault. g.T.TakesLines.fails first fault ls)) (sym w.cut)
    (c.take_last.ensures.read first w.more (record { number = omega (arith, c.saturating_add.ensures, w.count, cut_long text rest w.more w.cut); took = w.took }))

pub returns-in_err-line-clause-read : goal.returns-in_err-line-clause-read
returns-in_err-line-clause-read g c =
    let p = err_from_is_err_and c.from_residual.result c.from_residual.ensures.1 in
    rw (p.1, p.2) (λ begun.
    subst (λ t. g.T.TakesLines.fails c.args.taker c.in_err-line.field-0.0 (split t)) (append-nil c.args.text.now) (c.in_err-line.ensures.read c.args.taker [] (record { count = refl; few = omega arith; took = begun }) []))

pub returns-clause-memory : goal.returns-clause-memory
returns-clause-memory g c = λ begun.
    let first = c.args.taker in
    let text = c.args.text.now in
    let rest = c.in_ok-line.line.now in
    let w : TakesWhole (g.T.TakesLines.took first) [] text c.take_lines.new.self rest c.in_ok-line.count = c.in_ok-line.ensures.read first [] (record { count = refl; few = omega arith; took = begun }) in
    wants_last (g.T.TakesLines.wants first) [] c.take_last.result g.T.TakesLines.is_want w.more text rest w.cut
    (c.take_last.ensures.memory first w.more (record { number = omega (arith, c.saturating_add.ensures, w.count, cut_long text rest w.more w.cut); took = w.took }))

pub returns-in_err-line-clause-memory : goal.returns-in_err-line-clause-memory
returns-in_err-line-clause-memory g c =
    let p = err_from_is_err_and c.from_residual.result c.from_residual.ensures.1 in
    rw (p.1, p.2) (λ begun. c.in_err-line.ensures.memory c.args.taker [] (record { count = refl; few = omega arith; took = begun }))

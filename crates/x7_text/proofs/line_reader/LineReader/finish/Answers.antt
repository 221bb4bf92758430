use Rattle.std.proofs.Common.{◌≡◌, ◌∷◌, ◌++◌, [], ◌∙◌, IfErr, MatchResult, length, ap, arith, subst, sym}
use Rattle.x7_text.specs.LineReader.{ReaderState, StandsFor}
use Rattle.x7_text.specs.Lines.{split}
use Rattle.x7_text.proofs.LineReaderLemmas.{few_lines, view_count, view_took}
use Rattle.x7_text.proofs.line_reader.LineReader.finish.Goals as goal

pub returns-clause-read : goal.returns-clause-read
returns-clause-read g c = λ first text fits now.
    let taken = g.T.TakesLines.took first in
    let r : ReaderState g.row.T.Denot = record { taker = c.self.inside.taker; held = c.self.inside.held.items; count = c.self.inside.count } in
    let s : StandsFor taken r text = subst (λ x. StandsFor taken x text) (sym c.self.view_is) now in
    let all : s.lines ++ c.deref.result.now ∷ [] ≡ split text = ap (λ h. s.lines ++ h ∷ []) c.deref.ensures.value ∙ sym s.cut in
    subst (λ ls. MatchResult c.take_last.result (λ out. g.T.TakesLines.gives first out ls) (λ fault. g.T.TakesLines.fails first fault ls)) all
    (c.take_last.ensures.read first s.lines (record { number = omega (arith, c.saturating_add.ensures, few_lines taken r text s, s.count, fits); took = s.took }))

pub returns-clause-memory : goal.returns-clause-memory
returns-clause-memory g c = λ first text fits s.
    let taken = g.T.TakesLines.took first in
    let r : ReaderState g.row.T.Denot = record { taker = c.self.inside.taker; held = c.self.inside.held.items; count = c.self.inside.count } in
    let count : r.count ≡ length s.lines = view_count taken r c.args.self (length s.lines) c.self.view_is s.count in
    subst (λ h. IfErr c.take_last.result (λ fault. g.T.TakesLines.is_want fault → g.T.TakesLines.wants first s.lines h)) (c.deref.ensures.value ∙ ap (λ x. x.held) c.self.view_is)
    (c.take_last.ensures.memory first s.lines
    (record { number = omega (arith, c.saturating_add.ensures, count, few_lines taken c.args.self text s, s.count, fits); took = view_took taken r c.args.self s.lines c.self.view_is s.took }))

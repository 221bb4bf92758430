use Rattle.std.proofs.Common.{◌++◌, sym, ap, ◌∙◌, take-append-drop, drop, List, ℕ}
use Rattle.x7_mcs.specs.Text.{data_line}
use Rattle.x7_mcs.proofs.row.first_row.Goals as goal

pub returns-clause-line : goal.returns-clause-line
returns-clause-line c =
    sym (take-append-drop 44 c.args.text.now) ∙ ap (λ (t : List ℕ). t ++ drop 44 c.args.text.now) (sym c.in_ok-line.ensures.cases.0 ∙ c.is_row_line.ensures c.if-not-is_row_line.false)
    ∙ ap (λ (t : List ℕ). data_line c.guess_row-row.result.address c.guess_row-row.result.content ++ t) (sym c.in_ok-line.ensures.cases.1)

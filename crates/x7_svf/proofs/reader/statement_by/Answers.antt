use Rattle.std.proofs.Common.{List, ℕ, ap, sym, ◌∙◌}
use Rattle.x7_svf.specs.Span.{bytes_in}
use Rattle.x7_svf.proofs.reader.statement_by.Goals as goal

pub returns-then-is_keyword-clause-says : goal.returns-then-is_keyword-clause-says
returns-then-is_keyword-clause-says c =
    let word = c.bytes_in-word.ensures ∙ ap (λ (saved : List ℕ). bytes_in saved c.args.key) c.saved.ensures.now in
    rw (sym word, sym c.is_keyword.ensures, c.if-is_keyword.true) c.scan.ensures.says

pub returns-then-is_keyword-2-clause-says : goal.returns-then-is_keyword-2-clause-says
returns-then-is_keyword-2-clause-says c =
    let word = c.bytes_in-word.ensures ∙ ap (λ (saved : List ℕ). bytes_in saved c.args.key) c.saved.ensures.now in
    rw (sym word, sym c.is_keyword.ensures, c.if-is_keyword.false, sym c.is_keyword-2.ensures, c.if-is_keyword-2.true) c.scan-then-is_keyword-2.ensures.says

pub returns-then-is_keyword-3-clause-says : goal.returns-then-is_keyword-3-clause-says
returns-then-is_keyword-3-clause-says c =
    let word = c.bytes_in-word.ensures ∙ ap (λ (saved : List ℕ). bytes_in saved c.args.key) c.saved.ensures.now in
    rw (sym word, sym c.is_keyword.ensures, c.if-is_keyword.false, sym c.is_keyword-2.ensures, c.if-is_keyword-2.false, sym c.is_keyword-3.ensures, c.if-is_keyword-3.true) c.free_statement.ensures.says

pub returns-clause-says : goal.returns-clause-says
returns-clause-says c =
    let word = c.bytes_in-word.ensures ∙ ap (λ (saved : List ℕ). bytes_in saved c.args.key) c.saved.ensures.now in
    rw (sym word, sym c.is_keyword.ensures, c.if-is_keyword.false, sym c.is_keyword-2.ensures, c.if-is_keyword-2.false, sym c.is_keyword-3.ensures, c.if-is_keyword-3.false) (rw (sym word) at c.words_statement.ensures.says)

use Rattle.std.proofs.Common.{◌≡◌, false, true, codes, List, ℕ, ap, sym, ◌∙◌}
use Rattle.x7_svf.specs.Span.{bytes_in, words_saved}
use Rattle.x7_svf.specs.Words.{is_keyword}
use Rattle.x7_svf.proofs.WordsLemmas.{not_one, runtest_said}
use Rattle.x7_svf.proofs.words.statement_of_saved.Goals as goal

pub returns-then-is_keyword : goal.returns-then-is_keyword
returns-then-is_keyword c =
    let key : List ℕ = bytes_in c.args.saved.now c.args.key in
    let is_runtest : is_keyword key (codes "RUNTEST") ≡ true = ap (λ (k : List ℕ). is_keyword k (codes "RUNTEST")) (sym c.bytes_in-key.ensures) ∙ sym c.is_keyword.ensures ∙ c.if-is_keyword.true in
    (c.runtest_statement.ensures.0 ∙ sym (runtest_said key (words_saved c.args.saved.now c.args.words) is_runtest), c.runtest_statement.ensures.1)

pub returns-in_default : goal.returns-in_default
returns-in_default c =
    let key : List ℕ = bytes_in c.args.saved.now c.args.key in
    let is_other : is_keyword key (codes "RUNTEST") ≡ false = ap (λ (k : List ℕ). is_keyword k (codes "RUNTEST")) (sym c.bytes_in-key.ensures) ∙ sym c.is_keyword.ensures ∙ c.if-is_keyword.false in
    (not_one key c.args.saved.now c.args.words is_other c.in_default.not-One, tt)

use Rattle.std.proofs.Common.{◌≡◌, ◌<◌, ◌≤◌, ◌∷◌, ℕ, List, length, Option, subst, ap, sym, ◌∙◌}
use Rattle.x7_svf.specs.Token.{TokenOnLine, token_of, token_size}
use Rattle.x7_svf.specs.Source.{left_after, tokens_left}
use Rattle.x7_svf.specs.Span.{bytes_in}
use Rattle.x7_svf.specs.Statement.{statement_by, statement_of}
use Rattle.x7_svf.specs.Stored.{IsStored}
use Rattle.x7_svf.specs.Svf.{tokens_before_end, tokens_after_end}
use Rattle.x7_svf.specs.declared.statement.Statement.{Statement}
use Rattle.x7_svf.specs.declared.token.NextToken.{NextToken}
use Rattle.x7_svf.specs.declared.token.NextToken.TheVariants as next_token
use Rattle.x7_svf.proofs.ReadingLemmas.{left_stepped, passed_if, reads_if, reads_token}
use Rattle.x7_svf.proofs.reader.statement.Goals as goal

pub returns : goal.returns
returns c =
    let old = c.args.source.now in
    let here = c.next_within.new.source in
    let mid = c.save_word-key.new.source in
    let after = c.statement_by.new.source in
    let n = c.in-Word.size in
    let next = c.in_ok-size.ensures in
    let steps = c.save_word-key.ensures.steps in
    let is_word = c.in-Word.is in
    let goes_on : tokens_after_end (tokens_left old) ≡ tokens_after_end (left_after here (next_token.Word n)) = next.after_end ∙ ap (λ (t : NextToken). tokens_after_end (left_after here t)) is_word in
    let tokens : tokens_before_end (tokens_left old) ≡ token_of (next_token.Word n) here.rest ∷ tokens_before_end (tokens_left mid) =
    next.tokens ∙ ap (λ (t : NextToken). token_of t here.rest ∷ tokens_before_end (left_after here t)) is_word ∙ ap (λ (ps : List TokenOnLine). token_of (next_token.Word n) here.rest ∷ tokens_before_end ps) (left_stepped here mid (next_token.Word n) steps) in
    let said : statement_by (bytes_in mid.saved c.save_word-key.result) (tokens_before_end (tokens_left mid)) ≡ statement_of (tokens_before_end (tokens_left old)) =
    ap (λ (k : List ℕ). statement_by k (tokens_before_end (tokens_left mid))) c.save_word-key.ensures.word ∙ sym (ap statement_of tokens) in
    record {
      says = subst (λ (s : Option Statement). IsStored after.saved c.statement_by.result s) said c.statement_by.ensures.says;
      reads_on = reads_if c.statement_by.result old mid after (reads_token old here mid (next_token.Word n) next.blanks goes_on steps) c.statement_by.ensures.reads_on;
      passed = passed_if c.statement_by.result here mid after n (length old.rest) (subst (λ (t : NextToken). 0 < token_size t) is_word next.comes_next.not_empty)
          (subst (λ (t : NextToken). token_size t ≤ length here.rest) is_word next.comes_next.within) next.blanks.passed steps c.statement_by.ensures.reads_on;
    }

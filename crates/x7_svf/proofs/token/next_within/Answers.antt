use Rattle.std.proofs.Common.{◌≡◌, ◌∷◌, [], MatchOption, Option, ap, sym, subst}
use Rattle.x7_svf.specs.Token.{token_of}
use Rattle.x7_svf.specs.Source.{left_after, tokens_left}
use Rattle.x7_svf.specs.Svf.{tokens_before_end}
use Rattle.x7_svf.specs.declared.token.NextToken.{NextToken}
use Rattle.x7_svf.proofs.NextLemmas.{after_there, tokens_end, tokens_there}
use Rattle.x7_svf.proofs.token.next_within.Goals as goal

pub returns-in_err-token-clause-tokens : goal.returns-in_err-token-clause-tokens
returns-in_err-token-clause-tokens c =
    let old = c.args.source.now in
    let new = c.next.new.source in
    subst (λ (r : Option NextToken). MatchOption r (tokens_before_end (tokens_left old) ≡ []) (λ t. tokens_before_end (tokens_left old) ≡ token_of t new.rest ∷ tokens_before_end (left_after new t))) (sym c.from_residual.ensures)
    (ap tokens_before_end c.in_err-token.ensures.tokens)

pub returns-in-End-clause-tokens : goal.returns-in-End-clause-tokens
returns-in-End-clause-tokens c =
    let new = c.next.new.source in
    tokens_end (tokens_left c.args.source.now) new.line c.in_ok-token.token new.rest (left_after new c.in_ok-token.token) c.in_ok-token.ensures.tokens c.in-End.is

pub returns-in_default : goal.returns-in_default
returns-in_default c =
    let old = c.args.source.now in
    let new = c.next.new.source in
    let t = c.in_ok-token.token in
    record {
      tokens = tokens_there (tokens_left old) new.line t new.rest (left_after new t) c.in_ok-token.ensures.tokens c.in_default.not-End;
      after_end = after_there (tokens_left old) new.line t new.rest (left_after new t) c.in_ok-token.ensures.tokens c.in_default.not-End;
      comes_next = c.in_ok-token.ensures.comes_next;
      blanks = c.in_ok-token.ensures.blanks;
    }

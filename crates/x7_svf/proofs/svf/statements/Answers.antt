use Rattle.std.proofs.Common.{arith, ◌≡◌, ◌∷◌, [], ◌++◌, inr, List, ℕ, length, refl, ap, sym, subst, length-append}
use Rattle.x7_svf.specs.Token.{token_of}
use Rattle.x7_svf.specs.Source.{left_after, tokens_left}
use Rattle.x7_svf.specs.Stored.{AreStoredWithin}
use Rattle.x7_svf.proofs.SvfLemmas.{all_within, one_begins, stored_on}
use Rattle.x7_svf.proofs.svf.statements.Goals as goal

pub loop-source-preserved : goal.loop-source-preserved
loop-source-preserved c =
    let ps = tokens_left c.args.source.now in
    let at = c.loop-source.source in
    let here = c.next.new.source in
    let after = c.first_statement.new.source in
    let out = c.loop-source.out.items in
    let one = c.in-Some-first_statement.one in
    let is = c.in-Some-first_statement.ensures.says.0 in
    let pushed : c.push.new.self.items ≡ out ++ one ∷ [] = grind (arith, c.push.ensures.items, c.if-is_err.false, c.if-is_err.ensures.value, c.if-is_err.ensures.negation, c.is_err.ensures.value, c.is_err.ensures.negation) in
    record {
      says = stored_on ps at here after out c.push.new.self.items one pushed c.loop-source.invariant.within c.in-Some.ensures.blanks.saved c.in-Some-first_statement.ensures.prefix (record { line = here.line; token = token_of c.in-Some.field-0 here.rest }) (left_after here c.in-Some.field-0)
          c.loop-source.invariant.says c.in-Some.ensures.tokens c.in-Some.ensures.blanks.tokens is c.in-Some-first_statement.ensures.after_end;
      begins = inr (one_begins ps at here after out c.push.new.self.items one pushed c.loop-source.invariant.within c.in-Some.ensures.blanks.saved c.in-Some-first_statement.ensures.prefix c.loop-source.invariant.begins c.in-Some.ensures.blanks.tokens is);
      within = all_within ps at here after out c.push.new.self.items one pushed c.loop-source.invariant.within c.in-Some.ensures.blanks.saved c.in-Some-first_statement.ensures.prefix c.in-Some-first_statement.ensures.says.1;
      few = omega (arith, c.loop-source.invariant.few, c.in-Some.ensures.blanks.passed, c.in-Some-first_statement.ensures.passed, ap length pushed, length-append out (one ∷ []));
    }

pub returns-clause-within : goal.returns-clause-within
returns-clause-within c = subst (λ (k : List ℕ). AreStoredWithin (length k) c.loop-source.out.items) (sym c.in_default.ensures.blanks.saved) c.loop-source.invariant.within

pub returns-then-is_err-clause-memory : goal.returns-then-is_err-clause-memory
returns-then-is_err-clause-memory c = λ e.
    let out = c.loop-source.out.items in
    let one = c.in-Some-first_statement.one in
    one_begins (tokens_left c.args.source.now) c.loop-source.source c.next.new.source c.first_statement.new.source out (out ++ one ∷ []) one refl c.loop-source.invariant.within c.in-Some.ensures.blanks.saved c.in-Some-first_statement.ensures.prefix
    c.loop-source.invariant.begins c.in-Some.ensures.blanks.tokens c.in-Some-first_statement.ensures.says.0

-- Lemmas on specs/Reading.
use Rattle.std.specs.Prelude.{IfSome}
use Rattle.std.proofs.Common.{◌≡◌, ◌<◌, ◌≤◌, ℕ, List, Option, Some, None, length, length-drop, ap, sym, subst, ◌∙◌, drop, refl, arith}
use Rattle.x7_svf.specs.Token.{tokens, token_size}
use Rattle.x7_svf.specs.Reading.{PassesBlanks, ReadsOn, StepsOver}
use Rattle.x7_svf.specs.Source.{SourceState, left_after, tokens_left}
use Rattle.x7_svf.specs.Span.{StaysSaved}
use Rattle.x7_svf.specs.Svf.{tokens_after_end}
use Rattle.x7_svf.specs.declared.token.NextToken.{NextToken}
use Rattle.x7_svf.proofs.SpanLemmas.{all_stays, prefix_on}

pub reads_none : (a : SourceState) → ReadsOn a a
reads_none a = record {
  prefix = all_stays a.saved a.saved refl;
  after = refl;
  passed = omega arith;
}

pub reads_both : (a b c : SourceState) → ReadsOn a b → ReadsOn b c → ReadsOn a c
reads_both a b c f g = record {
  prefix = prefix_on a.saved b.saved c.saved f.prefix g.prefix;
  after = f.after ∙ g.after;
  passed = omega (arith, f.passed, g.passed);
}

-- the tokens after one over which a reader stepped
pub left_stepped : (b c : SourceState) (t : NextToken) → StepsOver (token_size t) b c → left_after b t ≡ tokens_left c
left_stepped b c t g = sym (λ i. tokens (g.line i) (g.rest i))

-- a token of the statement, after blanks
pub reads_token : (a b c : SourceState) (t : NextToken) → PassesBlanks a b → tokens_after_end (tokens_left a) ≡ tokens_after_end (left_after b t) → StepsOver (token_size t) b c → ReadsOn a c
reads_token a b c t f after g = record {
  prefix = subst (λ (k : List ℕ). StaysSaved k c.saved) f.saved g.prefix;
  after = after ∙ ap tokens_after_end (left_stepped b c t g);
  passed = omega (arith, f.passed, ap length g.rest, length-drop (token_size t) b.rest);
}

pub steps_skipped : (count : ℕ) (b c : SourceState) → c ≡ record b { rest = drop count b.rest } → StepsOver count b c
steps_skipped count b c e = record {
  prefix = all_stays b.saved c.saved (ap (λ (s : SourceState). s.saved) e);
  line = ap (λ (s : SourceState). s.line) e;
  rest = ap (λ (s : SourceState). s.rest) e;
}

pub reads_if : {A : Type 0} (o : Option A) (a b c : SourceState) → ReadsOn a b → IfSome o (λ s. ReadsOn b c) → IfSome o (λ s. ReadsOn a c)
reads_if None a b c f g = tt
reads_if (Some s) a b c f g = reads_both a b c f g

-- less is left than before a step over some bytes
pub passed_if : {A : Type 0} (o : Option A) (b c d : SourceState) (count n : ℕ) → 0 < count → count ≤ length b.rest → length b.rest ≤ n → StepsOver count b c → IfSome o (λ s. ReadsOn c d) → IfSome o (λ s. length d.rest < n)
passed_if None b c d count n some w l f g = tt
passed_if (Some s) b c d count n some w l f g = omega (arith, some, w, l, ap length f.rest, length-drop count b.rest, g.passed)

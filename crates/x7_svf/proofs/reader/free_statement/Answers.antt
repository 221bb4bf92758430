use Rattle.std.proofs.Common.{◌≡◌, ℕ, List, true, ap, sym, subst, ◌∙◌}
use Rattle.std.specs.List.{list_all}
use Rattle.x7_svf.specs.Token.{TokenOnLine, token_of}
use Rattle.x7_svf.specs.Reading.{StepsOver}
use Rattle.x7_svf.specs.Source.{left_after}
use Rattle.x7_svf.specs.Svf.{tokens_before_end}
use Rattle.x7_svf.specs.Words.{is_free_token}
use Rattle.x7_svf.proofs.ReadingLemmas.{left_stepped, reads_both, reads_token, steps_skipped}
use Rattle.x7_svf.proofs.WordsLemmas.{free_on}
use Rattle.x7_svf.proofs.reader.free_statement.Goals as goal

pub loop-token-preserved : goal.loop-token-preserved
loop-token-preserved c =
    let at = c.loop-token.source in
    let here = c.next_within.new.source in
    let after = c.skip.new.self in
    let t = c.in-Some.token in
    let steps = subst (λ (n : ℕ). StepsOver n here after) c.size.ensures (steps_skipped c.size.result here after c.skip.ensures) in
    let is_free_word : is_free_token (token_of t here.rest) ≡ true = sym (c.if-not-is_free_token.ensures ∙ ap (λ (r : List ℕ). is_free_token (token_of t r)) c.rest.ensures) in
    record {
      same = c.loop-token.invariant.same ∙ ap (list_all is_free_token) c.in-Some.ensures.tokens ∙ free_on (token_of t here.rest) (tokens_before_end (left_after here t)) is_free_word ∙ ap (λ (ps : List TokenOnLine). list_all is_free_token (tokens_before_end ps)) (left_stepped here after t steps);
      reads_on = reads_both c.args.source.now at after c.loop-token.invariant.reads_on (reads_token at here after t c.in-Some.ensures.blanks c.in-Some.ensures.after_end steps);
    }

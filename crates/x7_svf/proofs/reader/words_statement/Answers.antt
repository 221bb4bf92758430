use Rattle.std.proofs.Common.{◌≡◌, ◌≤◌, ◌∷◌, [], ◌++◌, ℕ, List, length, ap, sym, subst, ◌∙◌}
use Rattle.x7_svf.specs.Token.{tokens}
use Rattle.x7_svf.specs.Source.{left_after, tokens_left}
use Rattle.x7_svf.specs.Span.{StaysSaved, bytes_in, words_saved}
use Rattle.x7_svf.specs.Svf.{tokens_before_end, tokens_after_end}
use Rattle.x7_svf.specs.Words.{statement_if_words, statement_of_words, words_of}
use Rattle.x7_svf.specs.declared.token.NextToken.{NextToken}
use Rattle.x7_svf.specs.declared.token.NextToken.TheVariants as next_token
use Rattle.x7_svf.proofs.ReadingLemmas.{reads_both, reads_token}
use Rattle.x7_svf.proofs.SpanLemmas.{bytes_stay, prefix_long, stored_anywhere, words_more, words_stay}
use Rattle.x7_svf.proofs.WordsLemmas.{all_said, words_on}
use Rattle.x7_svf.proofs.reader.words_statement.Goals as goal

pub loop-token-preserved : goal.loop-token-preserved
loop-token-preserved c =
    let at = c.loop-token.source in
    let here = c.next_within.new.source in
    let after = c.save_word-word.new.source in
    let word : List ℕ = bytes_in after.saved c.save_word-word.result in
    let f : StaysSaved at.saved after.saved = subst (λ (k : List ℕ). StaysSaved k after.saved) c.in-Some.ensures.blanks.saved c.save_word-word.ensures.steps.prefix in
    let long : length at.saved ≤ length after.saved = prefix_long at.saved after.saved f in
    let stay : words_saved after.saved c.loop-token.words ≡ words_saved at.saved c.loop-token.words = words_stay at.saved after.saved f c.loop-token.words c.loop-token.invariant.within in
    record {
      same = words_on (words_of (tokens_before_end (tokens_left c.args.source.now))) (words_saved at.saved c.loop-token.words) (tokens_before_end (tokens_left at)) here c.in-Some.token c.in-Word.size c.loop-token.invariant.same c.in-Some.ensures.tokens c.in-Word.is
          (words_saved after.saved c.in-Some-with_word.more) word (tokens_left after) (c.in-Some-with_word.ensures.one_more after.saved ∙ ap (λ (ws : List (List ℕ)). ws ++ word ∷ []) stay) c.save_word-word.ensures.word
          (λ i. tokens (c.save_word-word.ensures.steps.line i) (c.save_word-word.ensures.steps.rest i));
      within = c.in-Some-with_word.ensures.within (length after.saved) (words_more (length at.saved) (length after.saved) c.loop-token.words long c.loop-token.invariant.within) c.save_word-word.ensures.within;
      reads_on = reads_both c.args.source.now at after c.loop-token.invariant.reads_on
          (reads_token at here after (next_token.Word c.in-Word.size) c.in-Some.ensures.blanks (c.in-Some.ensures.after_end ∙ ap (λ (t : NextToken). tokens_after_end (left_after here t)) c.in-Word.is) c.save_word-word.ensures.steps);
    }

pub returns-clause-says : goal.returns-clause-says
returns-clause-says c =
    let old = c.args.source.now in
    let at = c.loop-token.source in
    let here = c.next_within.new.source in
    let f : StaysSaved old.saved c.saved.result.now = subst (λ (k : List ℕ). StaysSaved old.saved k) (sym c.in_default.ensures.blanks.saved ∙ sym c.saved.ensures.now) c.loop-token.invariant.reads_on.prefix in
    let same : c.saved.result.now ≡ at.saved = c.saved.ensures.now ∙ c.in_default.ensures.blanks.saved in
    stored_anywhere here.saved c.statement_of_saved.result (statement_if_words (bytes_in old.saved c.args.key) (words_of (tokens_before_end (tokens_left old))))
    (c.statement_of_saved.ensures.0 ∙ (λ i. statement_of_words (bytes_stay old.saved c.saved.result.now f c.args.key c.requires.key i) (words_saved (same i) c.loop-token.words))
    ∙ sym (all_said (bytes_in old.saved c.args.key) (words_of (tokens_before_end (tokens_left old))) (words_saved at.saved c.loop-token.words) (tokens_before_end (tokens_left at)) c.loop-token.invariant.same c.in_default.ensures.tokens))
    c.statement_of_saved.ensures.1

use Rattle.std.proofs.Common.{◌≡◌, length}
use Rattle.x7_svf.specs.Reading.{ReadsOn}
use Rattle.x7_svf.specs.Source.{tokens_left}
use Rattle.x7_svf.specs.Span.{AreWordsWithin, words_saved}
use Rattle.x7_svf.specs.Svf.{tokens_before_end}
use Rattle.x7_svf.specs.Words.{words_of}
use Rattle.x7_svf.proofs.WordsLemmas.{after_words}
use Rattle.x7_svf.proofs.reader.words_statement.Given as goal

abbrev pub invariant-loop-token : goal.invariant-loop-token
invariant-loop-token l = record {
  same : words_of (tokens_before_end (tokens_left l.fn.source)) ≡ after_words (words_saved l.source.saved l.words) (words_of (tokens_before_end (tokens_left l.source)));
  within : AreWordsWithin (length l.source.saved) l.words;
  reads_on : ReadsOn l.fn.source l.source;
}

abbrev pub decreases-loop-token : goal.decreases-loop-token
decreases-loop-token l = length l.source.rest

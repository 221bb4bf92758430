use Rattle.std.proofs.Common.{◌≡◌, length}
use Rattle.std.specs.List.{list_all}
use Rattle.x7_svf.specs.Reading.{ReadsOn}
use Rattle.x7_svf.specs.Source.{tokens_left}
use Rattle.x7_svf.specs.Words.{is_free_token}
use Rattle.x7_svf.specs.Svf.{tokens_before_end}
use Rattle.x7_svf.proofs.reader.free_statement.Given as goal

abbrev pub invariant-loop-token : goal.invariant-loop-token
invariant-loop-token l = record {
  same : list_all is_free_token (tokens_before_end (tokens_left l.fn.source)) ≡ list_all is_free_token (tokens_before_end (tokens_left l.source));
  reads_on : ReadsOn l.fn.source l.source;
}

abbrev pub decreases-loop-token : goal.decreases-loop-token
decreases-loop-token l = length l.source.rest

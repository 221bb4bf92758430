use Rattle.std.proofs.Common.{◌≡◌, ◌≤◌, length}
use Rattle.x7_svf.specs.Source.{tokens_left}
use Rattle.x7_svf.proofs.token.skip_blanks.Given as goal

abbrev pub invariant-loop-source : goal.invariant-loop-source
invariant-loop-source l = record {
  same : tokens_left l.fn.source ≡ tokens_left l.source;
  saved : l.source.saved ≡ l.fn.source.saved;
  within : length l.source.rest ≤ length l.fn.source.rest;
}

abbrev pub decreases-loop-source : goal.decreases-loop-source
decreases-loop-source l = length l.source.rest

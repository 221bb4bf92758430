use Rattle.std.proofs.Common.{◌≡◌, ◌≤◌, length}
use Rattle.x7_svf.specs.Source.{tokens_left}
use Rattle.x7_svf.specs.Svf.{tokens_after_end}
use Rattle.x7_svf.proofs.token.pass_end.Given as goal

abbrev pub invariant-loop-token : goal.invariant-loop-token
invariant-loop-token l = record {
  same : tokens_after_end (tokens_left l.fn.source) ≡ tokens_after_end (tokens_left l.source);
  saved : l.source.saved ≡ l.fn.source.saved;
  within : length l.source.rest ≤ length l.fn.source.rest;
}

abbrev pub decreases-loop-token : goal.decreases-loop-token
decreases-loop-token l = length l.source.rest

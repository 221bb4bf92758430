use Rattle.std.proofs.Common.{◌≡◌, ◌⊎◌, ◌≤◌, ◌+◌, ◌*◌, length}
use Rattle.x7_svf.specs.Source.{tokens_left}
use Rattle.x7_svf.specs.Stored.{AreStoredWithin, statements_in}
use Rattle.x7_svf.specs.Svf.{BeginWithStatement, outcome}
use Rattle.x7_svf.proofs.OutcomeLemmas.{after_all}
use Rattle.x7_svf.proofs.svf.statements.Given as goal

abbrev pub invariant-loop-source : goal.invariant-loop-source
invariant-loop-source l = record {
  says : outcome (tokens_left l.fn.source) ≡ after_all (statements_in l.source.saved l.out.items) (outcome (tokens_left l.source));
  begins : (length l.out.items ≡ 0) × (tokens_left l.source ≡ tokens_left l.fn.source) ⊎ BeginWithStatement (tokens_left l.fn.source);
  within : AreStoredWithin (length l.source.saved) l.out.items;
  few : 2 * length l.out.items + length l.source.rest ≤ length l.fn.source.rest;
}

abbrev pub decreases-loop-source : goal.decreases-loop-source
decreases-loop-source l = length l.source.rest

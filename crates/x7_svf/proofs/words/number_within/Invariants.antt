use Rattle.std.proofs.Common.{◌≡◌, ◌≤◌, length}
use Rattle.x7_svf.specs.Words.{number_within}
use Rattle.x7_svf.proofs.NumberLemmas.{number_from}
use Rattle.x7_svf.proofs.words.number_within.Given as goal

abbrev pub invariant-loop-rest : goal.invariant-loop-rest
invariant-loop-rest l = record {
  same : number_within l.limit l.word ≡ number_from l.limit l.value l.rest;
  within : l.value ≤ l.limit;
}

abbrev pub decreases-loop-rest : goal.decreases-loop-rest
decreases-loop-rest l = length l.rest

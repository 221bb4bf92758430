use Rattle.x7_recovery.proofs.FullCleanLemmas.{full_clean}
use Rattle.x7_recovery.proofs.GoldenLemmas.{full_golden}
use Rattle.x7_recovery.proofs.golden_law.full_streams_start.Goals as goal

pub returns-clause-starts : goal.returns-clause-starts
returns-clause-starts c = full_golden

pub returns-clause-clean : goal.returns-clause-clean
returns-clause-clean c = λ u t p s. full_clean u p t s

use Rattle.x7_engine.proofs.GapLemmas.{no_sync_goes_on, no_sync_phase}
use Rattle.x7_engine.proofs.laws.fallbacks_wait_for_the_sync_word.Goals as goal

pub returns-clause-stop : goal.returns-clause-stop
returns-clause-stop c = no_sync_goes_on

pub returns-clause-phase : goal.returns-clause-phase
returns-clause-phase c = no_sync_phase

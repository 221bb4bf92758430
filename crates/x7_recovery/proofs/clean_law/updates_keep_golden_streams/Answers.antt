use Rattle.x7_recovery.proofs.StaysLemmas.{clean_later, golden_later, place_later}
use Rattle.x7_recovery.proofs.clean_law.updates_keep_golden_streams.Goals as goal

pub returns-clause-starts : goal.returns-clause-starts
returns-clause-starts c = golden_later

pub returns-clause-clean : goal.returns-clause-clean
returns-clause-clean c = clean_later

pub returns-clause-same_place : goal.returns-clause-same_place
returns-clause-same_place c = place_later

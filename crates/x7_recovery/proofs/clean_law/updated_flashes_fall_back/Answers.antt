use Rattle.x7_recovery.proofs.AnyBootLemmas.{updated_boots, updated_falls_back}
use Rattle.x7_recovery.proofs.clean_law.updated_flashes_fall_back.Goals as goal

pub returns-clause-boots : goal.returns-clause-boots
returns-clause-boots c = updated_boots

pub returns-clause-falls_back : goal.returns-clause-falls_back
returns-clause-falls_back c = updated_falls_back

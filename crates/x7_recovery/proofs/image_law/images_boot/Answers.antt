use Rattle.x7_recovery.proofs.AnyBootLemmas.{image_boots}
use Rattle.x7_recovery.proofs.HasOpenLemmas.{image_planned}
use Rattle.x7_recovery.proofs.image_law.images_boot.Goals as goal

pub returns-clause-streams : goal.returns-clause-streams
returns-clause-streams c = image_boots

pub returns-clause-full_golden : goal.returns-clause-full_golden
returns-clause-full_golden c = image_planned

use Rattle.x7_recovery.proofs.UpdatableLemmas.{image_updatable}
use Rattle.x7_recovery.proofs.laws.images_are_updatable.Goals as goal

pub returns : goal.returns
returns c = image_updatable

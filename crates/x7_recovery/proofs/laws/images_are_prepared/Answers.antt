use Rattle.x7_recovery.proofs.UpdatableLemmas.{image_prepared}
use Rattle.x7_recovery.proofs.laws.images_are_prepared.Goals as goal

pub returns : goal.returns
returns c = image_prepared

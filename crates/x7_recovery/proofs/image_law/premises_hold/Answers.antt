use Rattle.x7_recovery.proofs.AnyBootLemmas.{some_fallback_starts}
use Rattle.x7_recovery.proofs.PremiseLemmas.{empty_attempt, left_torn, plan_is, some_update_fails, tiny_image, tiny_is, tiny_prepared}
use Rattle.std.proofs.Common.{[]}
use Rattle.x7_recovery.specs.Example.{nothing_planned, tiny}
use Rattle.x7_recovery.proofs.image_law.premises_hold.Goals as goal

pub returns-clause-part : goal.returns-clause-part
returns-clause-part c = tiny_is

pub returns-clause-plan : goal.returns-clause-plan
returns-clause-plan c = plan_is

pub returns-clause-falls_back : goal.returns-clause-falls_back
returns-clause-falls_back c = some_fallback_starts

pub returns-clause-fails : goal.returns-clause-fails
returns-clause-fails c = λ part golden. (empty_attempt part golden, some_update_fails part golden)

pub returns-clause-image : goal.returns-clause-image
returns-clause-image c = tiny_image

pub returns-clause-prepared : goal.returns-clause-prepared
returns-clause-prepared c = tiny_prepared

pub returns-clause-torn : goal.returns-clause-torn
returns-clause-torn c = λ stream. left_torn tiny nothing_planned [] stream tiny_image tt (tiny_prepared stream).updatable

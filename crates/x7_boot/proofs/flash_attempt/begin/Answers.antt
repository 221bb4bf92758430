use Rattle.x7_boot.proofs.FlashAttemptLemmas.{feeds_first}
use Rattle.x7_boot.proofs.flash_attempt.begin.Goals as goal

pub returns : goal.returns
returns c = λ known. feeds_first c.args.device.now.part c.args.kept c.args.address known c.reset.new.self c.reset.ensures.stands

use Rattle.x7_update.proofs.HonestLemmas.{small_calls}
use Rattle.x7_update.proofs.call_laws.update_calls_of_three_sectors.Goals as goal

pub returns : goal.returns
returns c = λ first_sector stream place opened next. small_calls first_sector stream place opened next

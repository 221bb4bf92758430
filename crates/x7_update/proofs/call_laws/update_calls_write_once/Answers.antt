use Rattle.x7_update.proofs.CallLawLemmas.{calls_above, calls_below, calls_verified}
use Rattle.x7_update.proofs.call_laws.update_calls_write_once.Goals as goal

pub returns-clause-above : goal.returns-clause-above
returns-clause-above c = λ size first_sector stream room place h k. calls_above size first_sector stream room.sized room.has room.fits place h k

pub returns-clause-below : goal.returns-clause-below
returns-clause-below c = λ size first_sector stream room place h. calls_below size first_sector stream room.sized room.has room.fits place h

pub returns-clause-verified : goal.returns-clause-verified
returns-clause-verified c = λ size first_sector stream room place h k. calls_verified size first_sector stream room.sized room.has room.fits place h k

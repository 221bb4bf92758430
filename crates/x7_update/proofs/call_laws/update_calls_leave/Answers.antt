use Rattle.x7_update.proofs.CallLawLemmas.{calls_become, calls_leave}
use Rattle.x7_update.proofs.call_laws.update_calls_leave.Goals as goal

pub returns-clause-leaves : goal.returns-clause-leaves
returns-clause-leaves c = λ flash stream first_sector t found calls are f m. calls_leave flash stream first_sector t.updatable t.bytes t.fits t.whole found calls are f m

pub returns-clause-becomes : goal.returns-clause-becomes
returns-clause-becomes c = λ flash stream first_sector now t h. calls_become flash stream first_sector t.updatable t.bytes t.fits t.whole now h

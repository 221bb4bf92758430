use Rattle.x7_startup.proofs.CallLemmas.{drop_stands}
use Rattle.x7_startup.proofs.startup.Startup.drop_back.Goals as goal

pub returns : goal.returns
returns c = record { stands = λ lock_ticks match_ticks calls h. drop_stands lock_ticks match_ticks calls }

use Rattle.std.proofs.Common.{refl, sym}
use Rattle.x7_engine.proofs.progress.Progress.new.Goals as goal
use Rattle.x7_crc.proofs.CheckerLemmas.{check_none}

pub returns : goal.returns
returns c = λ idcode. record { check = sym check_none; has_idcode = refl; pending = refl; ghigh = refl; iprog = refl }

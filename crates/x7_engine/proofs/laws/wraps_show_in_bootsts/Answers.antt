use Rattle.x7_engine.proofs.WrapLemmas.{wrap_alone, wrap_bit}
use Rattle.x7_engine.proofs.laws.wraps_show_in_bootsts.Goals as goal

pub returns-clause-alone : goal.returns-clause-alone
returns-clause-alone c = wrap_alone

pub returns-clause-bit : goal.returns-clause-bit
returns-clause-bit c = wrap_bit

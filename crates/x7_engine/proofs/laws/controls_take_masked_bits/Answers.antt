use Rattle.x7_engine.proofs.MaskLemmas.{masked_bits}
use Rattle.x7_engine.proofs.laws.controls_take_masked_bits.Goals as goal

pub returns : goal.returns
returns c = masked_bits

use Rattle.x7_engine.proofs.ReadsLemmas.{reads_grow}
use Rattle.x7_engine.proofs.laws.reads_grow.Goals as goal

pub returns : goal.returns
returns c = reads_grow

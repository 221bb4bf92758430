use Rattle.x7_effects.proofs.LawLemmas.{read_law}
use Rattle.x7_effects.proofs.laws.read_streams_play.Goals as goal

pub returns : goal.returns
returns c = λ r address n rests. read_law r.part r.kept r.bytes address n rests.fits rests.at_rest rests.is_part

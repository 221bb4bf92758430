use Rattle.x7_effects.proofs.LawLemmas.{partial_law}
use Rattle.x7_effects.proofs.laws.partial_streams_play.Goals as goal

pub returns : goal.returns
returns c = λ r plan rests p. partial_law r.part r.kept r.bytes plan rests.fits rests.at_rest rests.is_part p.is_plan p.width p.addressed

use Rattle.x7_effects.proofs.LawLemmas.{full_law, new_law}
use Rattle.x7_effects.proofs.laws.full_streams_play.Goals as goal

pub returns-clause-plays : goal.returns-clause-plays
returns-clause-plays c = λ r plan rests p. full_law r.part r.kept r.bytes plan rests.fits rests.at_rest rests.is_part p.is_plan p.width p.addressed

pub returns-clause-plays_new : goal.returns-clause-plays_new
returns-clause-plays_new c = λ part plan is p. new_law part plan is p.is_plan p.width p.addressed

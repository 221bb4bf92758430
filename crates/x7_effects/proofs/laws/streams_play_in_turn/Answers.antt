use Rattle.x7_effects.proofs.InTurnLemmas.{both_play, full_reads_back, partial_reads_back}
use Rattle.x7_effects.proofs.laws.streams_play_in_turn.Goals as goal

pub returns-clause-full : goal.returns-clause-full
returns-clause-full c = λ p far n r. full_reads_back p.device.part p.device.kept p.device.bytes p.plan far n r.rests.fits r.rests.at_rest r.rests.is_part r.plan_is

pub returns-clause-partial : goal.returns-clause-partial
returns-clause-partial c = λ p far n r. partial_reads_back p.device.part p.device.kept p.device.bytes p.plan far n r.rests.fits r.rests.at_rest r.rests.is_part r.plan_is

pub returns-clause-both : goal.returns-clause-both
returns-clause-both c = λ p later r. both_play p.device.part p.device.kept p.device.bytes p.plan later r.rests.fits r.rests.at_rest r.rests.is_part r.plan_is

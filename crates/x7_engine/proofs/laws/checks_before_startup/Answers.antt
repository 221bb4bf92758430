use Rattle.x7_engine.proofs.CheckedLemmas.{check_equals, idcode_matches, none_before, phase_started}
use Rattle.x7_packets.specs.History.{Write}
use Rattle.x7_engine.proofs.laws.checks_before_startup.Goals as goal

pub returns-clause-started : goal.returns-clause-started
returns-clause-started c = λ p. phase_started p.part p.kept p.wrapped p.bytes

pub returns-clause-checks : goal.returns-clause-checks
returns-clause-checks c = λ p w place older s. check_equals p.part p.kept older w (none_before p.part p.kept p.bytes (Write 0 w) place older s.fits s.stands s.before)

pub returns-clause-idcodes : goal.returns-clause-idcodes
returns-clause-idcodes c = λ p w place older s. idcode_matches p.part p.kept older w (none_before p.part p.kept p.bytes (Write 12 w) place older s.fits s.stands s.before)

pub returns-clause-no_stop : goal.returns-clause-no_stop
returns-clause-no_stop c = λ p access place older s. none_before p.part p.kept p.bytes access place older s.fits s.stands s.before

use Rattle.x7_flow.proofs.PlanLemmas.{copies_keep, source_left}
use Rattle.x7_flow.proofs.laws.mfw_takes_the_last_frame.Goals as goal

pub returns-clause-source : goal.returns-clause-source
returns-clause-source c = λ part h command place frames last r. source_left part h command place frames last r.run.some r.wcfg r.mfw r.run.run r.run.whole

pub returns-clause-source_stays : goal.returns-clause-source_stays
returns-clause-source_stays c = λ part earlier w place n ws. (copies_keep part earlier w place n ws).0

pub returns-clause-settings_stay : goal.returns-clause-settings_stay
returns-clause-settings_stay c = λ part earlier w place n ws. (copies_keep part earlier w place n ws).1

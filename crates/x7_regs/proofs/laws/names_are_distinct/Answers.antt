use Rattle.x7_regs.proofs.NameLemmas.{reg_name_distinct}
use Rattle.x7_regs.proofs.laws.names_are_distinct.Goals as goal

pub returns-clause-registers : goal.returns-clause-registers
returns-clause-registers c = reg_name_distinct

use Rattle.x7_regs.proofs.CommandLemmas.{command_by_named, command_by_unnamed}
use Rattle.x7_regs.proofs.laws.codes_are_distinct.Goals as goal

pub returns-clause-named : goal.returns-clause-named
returns-clause-named c = command_by_named

pub returns-clause-unnamed : goal.returns-clause-unnamed
returns-clause-unnamed c = command_by_unnamed

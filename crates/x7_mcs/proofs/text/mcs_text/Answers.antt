use Rattle.std.proofs.Common.{rules, ap, ◌∙◌}
use Rattle.x7_mcs.specs.Flash.{mcs_of}
use Rattle.x7_mcs.proofs.BackLemmas.{text_gives}
use Rattle.x7_mcs.proofs.text.mcs_text.Goals as goal

pub returns-clause-text : goal.returns-clause-text
returns-clause-text c = search rules

pub returns-clause-back : goal.returns-clause-back
returns-clause-back c = λ h. ap mcs_of (returns-clause-text c) ∙ text_gives c.args.flash.now h c.requires

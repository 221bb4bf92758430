use Rattle.std.proofs.Common.{ap, ◌∙◌}
use Rattle.x7_mcs.specs.Flash.{mcs_of}
use Rattle.x7_mcs.proofs.BackLemmas.{text_gives}
use Rattle.x7_mcs.proofs.OutcomeLemmas.{back_of}
use Rattle.x7_mcs.proofs.flash.flash_of.Goals as goal
use Rattle.x7_words.proofs.CaseLemmas.{ok_side, err_side}

pub returns-clause-bytes : goal.returns-clause-bytes
returns-clause-bytes c = ok_side c.read_lines.result _ _ (c.read_lines.ensures.read c.new.ensures)

pub returns-clause-fault : goal.returns-clause-fault
returns-clause-fault c = err_side c.read_lines.result _ _ (c.read_lines.ensures.read c.new.ensures)

pub returns-clause-memory : goal.returns-clause-memory
returns-clause-memory c = c.read_lines.ensures.memory c.new.ensures

pub returns-clause-back : goal.returns-clause-back
returns-clause-back c = λ x h l e. back_of (λ v. v.items) (mcs_of c.args.text.now) x c.read_lines.result (ap mcs_of e ∙ text_gives x h l) (c.read_lines.ensures.read c.new.ensures)

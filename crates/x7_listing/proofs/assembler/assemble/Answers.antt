use Rattle.x7_listing.proofs.OutcomeLemmas.{stream_outcome}
use Rattle.x7_listing.proofs.assembler.assemble.Goals as goal
use Rattle.x7_words.proofs.CaseLemmas.{ok_side, err_side}

pub returns-clause-bytes : goal.returns-clause-bytes
returns-clause-bytes c = ok_side c.read_lines.result _ _ (c.read_lines.ensures.read c.new.ensures)

pub returns-clause-fault : goal.returns-clause-fault
returns-clause-fault c = err_side c.read_lines.result _ _ (c.read_lines.ensures.read c.new.ensures)

pub returns-clause-memory : goal.returns-clause-memory
returns-clause-memory c = c.read_lines.ensures.memory c.new.ensures

pub returns-clause-back : goal.returns-clause-back
returns-clause-back c = stream_outcome (λ v. v.items) c.args.text.now c.read_lines.result (c.read_lines.ensures.read c.new.ensures)

use Rattle.x7_regs.proofs.StatusLemmas.{has_fields}
use Rattle.x7_regs.proofs.laws.status_has_its_fields.Goals as goal

pub returns : goal.returns
returns c = has_fields

use Rattle.x7_mcs.proofs.LawLemmas.{rows_in_parts}
use Rattle.x7_mcs.proofs.laws.rows_in_parts.Goals as goal

pub returns : goal.returns
returns c = rows_in_parts
